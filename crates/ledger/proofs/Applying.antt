-- Events taken one after another, none of which is at fault. Assumes nothing.
use Prim.Native.Nat.{ℕ, ◌+◌, ◌<◌, ◌≤◌}
use mathlib.Core.Bool.{Bool, true, false, cond}
use mathlib.Core.List.{List, [], ◌∷◌, ◌++◌}
use mathlib.Core.Path.{◌≡◌, refl, sym, ap, ◌∙◌}
use native.Mathlib.Omega.{arith}
use borrow.Author.Tests.{ltb-true}
use lib.Dec.{ltb}
use lib.ListN.{length, take, drop}
use Rattle.table.specs.Answers.{Answer, given, refused}
use Rattle.table.specs.Table.{length_of}
use Rattle.table.specs.declared.rules.Rules.{Rules}
use Rattle.payloads.specs.Commands.{in_five}
use Rattle.walk.specs.Step.{ended, command, stopped as stopping, heading, step_at}
use Rattle.walk.specs.Walk.{placed}
use Rattle.ledger.specs.Book.{Book, noted, opening, asked, step, onward, steps}
use Rattle.ledger.specs.Events.{Request, Event, request, reply, stop_at, is_request, agrees_with, place, event_of}
use Rattle.ledger.specs.Parents.{stopped}
use Rattle.ledger.specs.Working.{reply_of, fault_in, events_from}
use Rattle.ledger.proofs.Walking.{events_command, events_end, events_stop}

-- ---- a run of events

-- of events without a fault the first has none
pub first_faultless : (e : Event) (es : List Event) (b : Book) → fault_in (steps (e ∷ es) b) ≡ 0 → fault_in (step e b) ≡ 0
unfolding steps
first_faultless e es b h = by (step e b) h
  where
    by : (a : Answer Book) → fault_in (onward a (steps es)) ≡ 0 → fault_in a ≡ 0
    by (given c) h = refl
    by (refused k) h = h

pub steps_on : (e : Event) (es : List Event) (b c : Book) → given c ≡ step e b → steps es c ≡ steps (e ∷ es) b
unfolding steps
steps_on e es b c h = ap (λ (a : Answer Book). onward a (steps es)) h

pub steps_end : (b : Book) → given b ≡ steps [] b
unfolding steps
steps_end b = refl

pub steps_last : (e : Event) (b c : Book) → given c ≡ step e b → given c ≡ steps (e ∷ []) b
unfolding steps
steps_last e b c h = ap (λ (a : Answer Book). onward a (steps [])) h

-- ---- a request

pub room_for : (r : Request) (b : Book) → fault_in (asked r b) ≡ 0 → length (b.pending r.cid) < 8
room_for r b h = by (ltb (length (b.pending r.cid)) 8) refl h
  where
    by : (t : Bool) → ltb (length (b.pending r.cid)) 8 ≡ t → fault_in (cond t (given (opening r.cid (b.pending r.cid ++ (r ∷ [])) b)) (refused 17)) ≡ 0
        → length (b.pending r.cid) < 8
    by true e h = ltb-true _ _ e
    by false e h = absurd (omega arith)

asked_is : (r : Request) (b : Book) → fault_in (asked r b) ≡ 0 → asked r b ≡ given (opening r.cid (b.pending r.cid ++ (r ∷ [])) b)
asked_is r b h = by (ltb (length (b.pending r.cid)) 8) h
  where
    by : (t : Bool) → fault_in (cond t (given (opening r.cid (b.pending r.cid ++ (r ∷ [])) b)) (refused 17)) ≡ 0
        → cond t (given (opening r.cid (b.pending r.cid ++ (r ∷ [])) b)) (refused 17) ≡ given (opening r.cid (b.pending r.cid ++ (r ∷ [])) b)
    by true h = refl
    by false h = absurd (omega arith)

-- ---- a command

module _ (rules : Rules) (n f at cid : ℕ) (body : List ℕ) where
  abbrev pub asking : Request
  asking = record { at = place n f at; cid = cid; body = (in_five body).1 }

  pub is_asked : (b : Book) → is_request rules cid ≡ true → step (event_of rules n f (placed at cid body)) b ≡ asked asking b
  is_asked b h = ap (λ (t : Bool). step (cond t (request asking) (reply (reply_of cid (agrees_with cid body) n f at))) b) h

  pub is_replied : (b : Book) (yea : Bool) → is_request rules cid ≡ false → yea ≡ agrees_with cid body
      → step (event_of rules n f (placed at cid body)) b ≡ step (reply (reply_of cid yea n f at)) b
  is_replied b yea h e =
      ap (λ (t : Bool). step (cond t (request asking) (reply (reply_of cid (agrees_with cid body) n f at))) b) h
      ∙ ap (λ (t : Bool). step (reply (reply_of cid t n f at)) b) (sym e)

  pub request_taken : (b c : Book) (r : Request) → is_request rules cid ≡ true → r ≡ asking
      → fault_in (step (event_of rules n f (placed at cid body)) b) ≡ 0 → c ≡ opening cid (b.pending cid ++ (r ∷ [])) b
      → given c ≡ step (event_of rules n f (placed at cid body)) b
  request_taken b c r q same ok after =
      ap given (after ∙ ap (λ (x : Request). opening cid (b.pending cid ++ (x ∷ [])) b) same)
      ∙ sym (is_asked b q ∙ asked_is asking b (ap fault_in (sym (is_asked b q)) ∙ ok))

-- ---- along a stream

-- the events from an offset on, from the book b, come to what all of them come to from the book b₀, and that is no refusal
pub record Along (rules : Rules) (n f : ℕ) (s : List ℕ) (b₀ : Book) (at : ℕ) (b : Book) : Type 0 where
  pub within : at ≤ length s
  pub same : steps (events_from rules n f s at) b ≡ steps (events_from rules n f s 0) b₀
  pub faultless : fault_in (steps (events_from rules n f s 0) b₀) ≡ 0

module _ (rules : Rules) (n f : ℕ) (s : List ℕ) (b₀ : Book) {at : ℕ} {b : Book} (i : Along rules n f s b₀ at b) where
  module _ {cid len next : ℕ} (e : step_at (length_of rules) s at ≡ given (command (heading cid len) next)) where
    pub command_faultless : fault_in (step (event_of rules n f (placed at cid (take len (drop (at + 1) s)))) b) ≡ 0
    command_faultless =
        first_faultless _ (events_from rules n f s next) b
        (ap (λ (es : List Event). fault_in (steps es b)) (sym (events_command rules n f s at e)) ∙ ap fault_in i.same ∙ i.faultless)

    pub command_taken : {c : Book} → given c ≡ step (event_of rules n f (placed at cid (take len (drop (at + 1) s)))) b
        → steps (events_from rules n f s next) c ≡ steps (events_from rules n f s 0) b₀
    command_taken {c} h =
        steps_on _ (events_from rules n f s next) b c h ∙ ap (λ (es : List Event). steps es b) (sym (events_command rules n f s at e)) ∙ i.same

  pub at_end : step_at (length_of rules) s at ≡ given ended → given b ≡ steps (events_from rules n f s 0) b₀
  at_end e = steps_end b ∙ ap (λ (es : List Event). steps es b) (sym (events_end rules n f s at i.within e)) ∙ i.same

  module _ {k o : ℕ} (e : step_at (length_of rules) s at ≡ given (stopping k o)) where
    pub stop_faultless : fault_in (noted (stopped (place n f at)) b) ≡ 0
    stop_faultless =
        first_faultless (stop_at (place n f at)) [] b
        (ap (λ (es : List Event). fault_in (steps es b)) (sym (events_stop rules n f s at i.within e)) ∙ ap fault_in i.same ∙ i.faultless)

    pub at_stop : {c : Book} → given c ≡ noted (stopped (place n f at)) b → given c ≡ steps (events_from rules n f s 0) b₀
    at_stop {c} h =
        steps_last (stop_at (place n f at)) b c h ∙ ap (λ (es : List Event). steps es b) (sym (events_stop rules n f s at i.within e)) ∙ i.same

-- The events of a stream, told from the steps along it; and the commands of the table by their CIDs. Assumes nothing.
use Prim.Native.Nat.{ℕ, ◌+◌, ◌*◌, ◌/◌, ◌%◌, ◌<◌, ◌≤◌}
use Prim.Native.String.{String}
use mathlib.Core.Bool.{Bool, true, false, cond, ◌&&◌, ◌||◌}
use mathlib.Core.List.{List, [], ◌∷◌, ◌++◌}
use mathlib.Core.Option.{some}
use mathlib.Core.Path.{◌≡◌, refl, sym, ap, ◌∙◌}
use native.Mathlib.Decide.{dec_lt}
use native.Mathlib.Omega.{arith}
use borrow.Author.Tests.{ne_eqb, le-ltb}
use lib.Dec.{eqb, ltb, lit≤}
use lib.ListN.{length, get_or, take, drop, replicate}
use Rattle.bits.proofs.Each.{Each, each}
use Rattle.table.proofs.Lengths.{at_most_five}
use Rattle.table.proofs.Rows.{After, missing, nameless}
use Rattle.table.specs.Answers.{Answer, given, refused}
use Rattle.table.specs.Table.{Row, rows, length_in, length_of, name_in}
use Rattle.table.specs.declared.rules.Direction.{Direction}
use Rattle.table.specs.declared.rules.Direction.TheVariants.{Down, Up}
use Rattle.table.specs.declared.rules.Rules.{Rules}
use Rattle.text.specs.Characters.{ascii}
use Rattle.walk.proofs.Laws.{ends_at, walk_ends}
use Rattle.walk.proofs.Steps.{Here, past, ends, goes, here, walk_goes, found_ends, found_goes, found_command, goes_body, command_told}
use Rattle.walk.specs.Step.{Found, ended, command, stopped, first_of, found_at, Heading, heading, in_numbers, step_at}
use Rattle.walk.specs.Walk.{Cmd, placed, Ending, end, stop, place_of}
use Rattle.ledger.specs.Events.{Event, stop_at, ends_in, is_request, agrees_with, place, event_of, walk_events, is_known, NamedEither}
use Rattle.ledger.specs.Memory.{five_of}
use Rattle.ledger.specs.Trace.{begins}
use Rattle.ledger.specs.Working.{events_from}

-- ---- which commands are requests

-- the CIDs 03 to 0A sent down, and 02 and 0D sent up
abbrev pub request_in : Direction → ℕ → Bool
request_in Down c = cond (ltb c 0x03) false (ltb c 0x0B)
request_in Up c = cond (eqb c 0x02) true (eqb c 0x0D)

asks_in : Direction → ℕ → Bool
asks_in d c = ends_in "Req" (ascii (name_in rows d c))

As : Direction → ℕ → Type 0
As d c = asks_in d c ≡ request_in d c

as_each : (d : Direction) → Each (As d) 14
unfolding As asks_in ascii begins
as_each Down = (refl, (refl, (refl, (refl, (refl, (refl, (refl, (refl, (refl, (refl, (refl, (refl, (refl, (refl, tt))))))))))))))
as_each Up = (refl, (refl, (refl, (refl, (refl, (refl, (refl, (refl, (refl, (refl, (refl, (refl, (refl, (refl, tt))))))))))))))

-- no row has a larger CID
abbrev Below : List Row → Type 0
Below [] = Unit
Below (r ∷ rs) = (r.cid < 14) × Below rs

below : Below rows
below = (lit≤ tt, (lit≤ tt, (lit≤ tt, (lit≤ tt, (lit≤ tt, (lit≤ tt, (lit≤ tt, (lit≤ tt, (lit≤ tt, (lit≤ tt, tt))))))))))

above_all : (P : Type 0) (rs : List Row) (c : ℕ) → 14 ≤ c → Below rs → P → After P rs c
above_all P [] c h b x = x
above_all P (r ∷ rs) c h b x = above_all (P × (c ≡ r.cid → ⊥)) rs c h b.1 (x, λ e. omega (arith, b.0))

above : (c : ℕ) → 14 ≤ c → After Unit rows c
above c h = above_all Unit rows c h below tt

none_above : (d : Direction) (c : ℕ) → 14 ≤ c → asks_in d c ≡ false
unfolding asks_in ascii begins
none_above d c h = ap (λ (n : String). ends_in "Req" (ascii n)) (nameless rows d c (above c h))

not_above : (d : Direction) (c : ℕ) → 14 ≤ c → request_in d c ≡ false
not_above Down c h = let a : 3 ≤ c = omega arith in let b : 11 ≤ c = omega arith in rw (le-ltb c 3 a, le-ltb c 11 b)
not_above Up c h = let a : c ≡ 2 → ⊥ = λ e. omega arith in let b : c ≡ 13 → ⊥ = λ e. omega arith in rw (ne_eqb c 2 a, ne_eqb c 13 b)

as_in : (d : Direction) (c : ℕ) → Dec (c < 14) → asks_in d c ≡ request_in d c
unfolding As
as_in d c (yes h) = each (As d) 14 c (as_each d) h
as_in d c (no h) = none_above d c (omega arith) ∙ sym (not_above d c (omega arith))

pub request_is : (rules : Rules) (c : ℕ) → is_request rules c ≡ request_in rules.direction c
unfolding asks_in
request_is rules c = as_in rules.direction c (dec_lt c 14)

-- ---- every command is a request or an answer

replies_in : Direction → ℕ → Bool
replies_in d c = ends_in "Ans" (ascii (name_in rows d c))

Named : Direction → ℕ → Type 0
Named d c = ((asks_in d c || replies_in d c) ≡ is_known (length_in rows d c)) × ((asks_in d c && replies_in d c) ≡ false)

named_each : (d : Direction) → Each (Named d) 14
unfolding Named asks_in replies_in ascii begins
named_each Down = ((refl, refl), ((refl, refl), ((refl, refl), ((refl, refl), ((refl, refl), ((refl, refl), ((refl, refl), ((refl, refl), ((refl, refl), ((refl, refl), ((refl, refl), ((refl, refl), ((refl, refl), ((refl, refl), tt))))))))))))))
named_each Up = ((refl, refl), ((refl, refl), ((refl, refl), ((refl, refl), ((refl, refl), ((refl, refl), ((refl, refl), ((refl, refl), ((refl, refl), ((refl, refl), ((refl, refl), ((refl, refl), ((refl, refl), ((refl, refl), tt))))))))))))))

-- a byte without a name has no letters to end in
named_above : (d : Direction) (c : ℕ) → 14 ≤ c → Named d c
unfolding Named asks_in replies_in ascii begins
named_above d c h = rw (nameless rows d c (above c h), missing rows d c (above c h)) (refl, refl)

named_in : (d : Direction) (c : ℕ) → Dec (c < 14) → Named d c
named_in d c (yes h) = each (Named d) 14 c (named_each d) h
named_in d c (no h) = named_above d c (omega arith)

pub named_either : NamedEither
unfolding Named asks_in replies_in
named_either = record {
  either = λ rules c. (named_in rules.direction c (dec_lt c 14)).0;
  not_both = λ rules c. (named_in rules.direction c (dec_lt c 14)).1;
}

-- ---- a CID of the table is below 16

low_if : (rules : Rules) (c n : ℕ) → length_of rules c ≡ some n → Dec (c < 16) → c < 16
low_if rules c n e (yes h) = h
low_if rules c n e (no h) =
    let l = missing rows rules.direction c (above c (omega arith)) in
    let no_way : ◌≡◌ {A = ℕ} 0 1 = cc in
    absurd (omega arith)

pub cid_low : (rules : Rules) (c n : ℕ) → length_of rules c ≡ some n → c < 16
cid_low rules c n e = low_if rules c n e (dec_lt c 16)

-- ---- an answer by the first byte of its payload, which is all that is read of it

pub yes_in : (k : ℕ) {c b : ℕ} (payload : List ℕ) → b ≡ get_or payload 0 0 → c ≡ k → agrees_with k (b ∷ []) ≡ agrees_with c payload
yes_in k payload e h = ap (λ (x : ℕ). agrees_with k (x ∷ [])) e ∙ sym (ap (λ (x : ℕ). agrees_with x payload) h)

-- ---- a payload in five bytes

five_is : (b : List ℕ) → get_or b 0 0 ∷ get_or b 1 0 ∷ get_or b 2 0 ∷ get_or b 3 0 ∷ get_or b 4 0 ∷ [] ≡ take 5 (b ++ replicate 5 0)
five_is [] = refl
five_is (a ∷ []) = refl
five_is (a ∷ b ∷ []) = refl
five_is (a ∷ b ∷ c ∷ []) = refl
five_is (a ∷ b ∷ c ∷ d ∷ []) = refl
five_is (a ∷ b ∷ c ∷ d ∷ e ∷ rest) = refl

pub five_in : {five : List ℕ} {o b t d e : ℕ} (payload : List ℕ) → five ≡ o ∷ b ∷ t ∷ d ∷ e ∷ [] → o ≡ get_or payload 0 0 → b ≡ get_or payload 1 0
    → t ≡ get_or payload 2 0 → d ≡ get_or payload 3 0 → e ≡ get_or payload 4 0 → five ≡ take 5 (payload ++ replicate 5 0)
five_in payload h ho hb ht hd he = h ∙ rw (ho, hb, ht, hd, he) (five_is payload)

-- five bytes as one number
pub five_bytes : (a b c d e : ℕ) → a < 256 → b < 256 → c < 256 → d < 256 → e < 256
    → five_of (a + 256 * b + 65_536 * c + 16_777_216 * d + 4_294_967_296 * e) ≡ a ∷ b ∷ c ∷ d ∷ e ∷ []
five_bytes a b c d e ha hb hc hd he =
    let n : ℕ = a + 256 * b + 65_536 * c + 16_777_216 * d + 4_294_967_296 * e in
    let q1 : n / 256 ≡ b + 256 * c + 65_536 * d + 16_777_216 * e = omega arith in
    let q2 : n / 65_536 ≡ c + 256 * d + 65_536 * e = omega arith in
    let q3 : n / 16_777_216 ≡ d + 256 * e = omega arith in
    let q4 : n / 4_294_967_296 ≡ e = omega arith in
    let h0 : n % 256 ≡ a = omega arith in
    let h1 : n / 256 % 256 ≡ b = rw q1 (omega arith) in
    let h2 : n / 65_536 % 256 ≡ c = rw q2 (omega arith) in
    let h3 : n / 16_777_216 % 256 ≡ d = rw q3 (omega arith) in
    let h4 : n / 4_294_967_296 % 256 ≡ e = rw q4 (omega arith) in
    rw (h0, h1, h2, h3, h4)

-- ---- the events from an offset on, by the step there

-- a command stands at an offset of a stream, with its whole payload, and the next offset is behind it
pub record Stands (rules : Rules) (s : List ℕ) (at cid len next : ℕ) : Type 0 where
  pub known : length_of rules cid ≡ some len
  pub behind : next ≡ at + 1 + len
  pub fits : next ≤ length s
  pub short : len ≤ 5
  pub low : cid < 16

module _ (rules : Rules) (s : List ℕ) where
  pub stands : {at cid len next : ℕ} → step_at (length_of rules) s at ≡ given (command (heading cid len) next) → Stands rules s at cid len next
  stands {at} {cid} {len} {next} p =
      let t = command_told (length_of rules) s (found_at (length_of rules) s at) p in
      let g = found_command (length_of rules) s t.1 in
      let cid_is : t.0.cid ≡ cid = ap (λ (h : Heading). h.cid) t.2 in
      let len_is : length t.0.body ≡ len = ap (λ (h : Heading). h.len) t.2 in
      let e : length_of rules cid ≡ some len = sym (ap (length_of rules) cid_is) ∙ g.known ∙ ap some len_is in
      record {
        known = e;
        behind = omega (arith, g.behind);
        fits = g.fits;
        short = at_most_five rules cid len e;
        low = cid_low rules cid len e;
      }

module _ (rules : Rules) (n f : ℕ) (s : List ℕ) where
  pub events_command : (at : ℕ) {cid len next : ℕ} → step_at (length_of rules) s at ≡ given (command (heading cid len) next)
      → events_from rules n f s at ≡ event_of rules n f (placed at cid (take len (drop (at + 1) s))) ∷ events_from rules n f s next
  unfolding events_from
  events_command at {cid} {len} {next} p =
      let t = command_told (length_of rules) s (found_at (length_of rules) s at) p in
      let g = found_command (length_of rules) s t.1 in
      ap (walk_events rules n f) (walk_goes (length_of rules) s g)
      ∙ ap (λ (b : List ℕ). event_of rules n f (placed at t.0.cid b) ∷ events_from rules n f s next) (sym (goes_body (length_of rules) s g))
      ∙ ap (λ (h : Heading). event_of rules n f (placed at h.cid (take h.len (drop (at + 1) s))) ∷ events_from rules n f s next) t.2

  -- where no command stands, what a step finds is the whole rest
  abbrev rest_of : ℕ → Answer (Found Heading) → List Event
  rest_of at (given ended) = []
  rest_of at (given (command h next)) = event_of rules n f (placed at h.cid (take h.len (drop (at + 1) s))) ∷ events_from rules n f s next
  rest_of at (given (stopped k o)) = stop_at (place n f at) ∷ []
  rest_of at (refused k) = []

  rest_is : (at : ℕ) → at ≤ length s → events_from rules n f s at ≡ rest_of at (step_at (length_of rules) s at)
  unfolding events_from
  rest_is at h = by (here (length_of rules) s at)
    where
      ending_is : (e : Ending) → place_of e ≡ at → walk_events rules n f (record { cmds = []; ending = e }) ≡ rest_of at (in_numbers (given (first_of [] e)))
      ending_is (end o) p = refl
      ending_is (stop k o) p = ap (λ (i : ℕ). stop_at (place n f i) ∷ []) p

      by : Here (length_of rules) s at → events_from rules n f s at ≡ rest_of at (step_at (length_of rules) s at)
      by (past g) = absurd (omega arith)
      by (ends e g x) =
          ap (walk_events rules n f) (walk_ends (length_of rules) x) ∙ ending_is e (ends_at (length_of rules) x)
          ∙ sym (ap (λ (a : Answer (Found Cmd)). rest_of at (in_numbers a)) (found_ends (length_of rules) s g x))
      by (goes c next g) =
          let e = ap in_numbers (found_goes (length_of rules) s g) in
          events_command at e ∙ sym (ap (rest_of at) e)

  pub events_end : (at : ℕ) → at ≤ length s → step_at (length_of rules) s at ≡ given ended → events_from rules n f s at ≡ []
  events_end at h e = rest_is at h ∙ ap (rest_of at) e

  pub events_stop : (at : ℕ) {k o : ℕ} → at ≤ length s → step_at (length_of rules) s at ≡ given (stopped k o)
      → events_from rules n f s at ≡ stop_at (place n f at) ∷ []
  events_stop at h e = rest_is at h ∙ ap (rest_of at) e

-- within the stream a step is not refused
pub never_refused : (rules : Rules) (s : List ℕ) (at : ℕ) {k : ℕ} → at ≤ length s → step_at (length_of rules) s at ≡ refused k → ⊥
never_refused rules s at {k} h e = by (here (length_of rules) s at)
  where
    ending_not : (x : Ending) → in_numbers (given (first_of [] x)) ≡ refused k → ⊥
    ending_not (end o) p = let no_way : ◌≡◌ {A = ℕ} 0 1 = cc in omega arith
    ending_not (stop i o) p = let no_way : ◌≡◌ {A = ℕ} 0 1 = cc in omega arith

    by : Here (length_of rules) s at → ⊥
    by (past g) = omega arith
    by (ends x g y) = ending_not x (sym (ap in_numbers (found_ends (length_of rules) s g y)) ∙ e)
    by (goes c next g) =
        let p = ap in_numbers (found_goes (length_of rules) s g) in
        let no_way : ◌≡◌ {A = ℕ} 0 1 = cc in omega arith

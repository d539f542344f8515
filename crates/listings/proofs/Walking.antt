-- The text of a walk from an offset on, told from the step there. Assumes nothing.
use Prim.Native.Nat.{ℕ, ◌+◌, ◌-◌, ◌<◌, ◌≤◌}
use mathlib.Core.List.{List, [], ◌++◌, map, append-nil, append_assoc}
use mathlib.Core.Option.{some}
use mathlib.Core.Logic.{◌⊎◌, inl, inr}
use mathlib.Core.Path.{◌≡◌, refl, sym, ap, ap₂, ◌∙◌, subst}
use native.Mathlib.Omega.{arith}
use lib.ListN.{length, drop, length-append}
use Rattle.bits.proofs.Memory.{Left, Puts, puts_length, puts_more, puts_none, written_of}
use Rattle.table.specs.Answers.{Answer, given, refused}
use Rattle.table.specs.declared.refusal.Refusal.{Refusal}
use Rattle.table.specs.declared.rules.Rules.{Rules}
use Rattle.table.specs.Refusals.{number_of}
use Rattle.table.specs.Table.{length_of}
use Rattle.text.specs.Lines.{Line, line, text}
use Rattle.text.proofs.Decimals.{decimal_some}
use Rattle.walk.specs.Step.{Found, ended, command, stopped, first_of, found_at, Heading, heading, in_numbers, step_at}
use Rattle.walk.specs.declared.step.Step.{Step}
use Rattle.walk.specs.Told.{told_step}
use Rattle.walk.specs.Walk.{Cmd, Placed, Ending, end, stop, place_of, walk_from}
use Rattle.walk.proofs.Laws.{ends_at, walk_ends}
use Rattle.walk.proofs.Steps.{Goes, Here, past, ends, goes, here, walk_goes, found_ends, found_goes, found_command, goes_body, command_told}
use Rattle.listings.specs.Into.{length_within}
use Rattle.listings.specs.Listing.{lines_of, command_line, last_line, in_frame, printed, listing_of}
use Rattle.listings.specs.declared.command.Command.{Command}
use Rattle.listings.specs.Passes.{body_at, step_line, Stands}
use Rattle.listings.specs.Shown.{line_of}
use Rattle.listings.proofs.Into.{too_long, fits_in}
use Rattle.listings.proofs.Lining.{command_long, end_long, frame_long, stamp_long, stop_long}

-- ---- a step with a command

module _ (rules : Rules) (s : List ℕ) where
  line_is : {at next : ℕ} {c : Cmd} → Goes (length_of rules) s at c next
      → step_line rules s at (in_numbers (given (command c next))) ≡ command_line rules (record { at = at; cmd = c })
  line_is {at} {next} {c} g = ap (λ (b : List ℕ). command_line rules (record { at = at; cmd = record { cid = c.cid; body = b } })) (goes_body (length_of rules) s g)

  pub stands : {at cid len next : ℕ} → step_at (length_of rules) s at ≡ given (command (heading cid len) next) → Stands rules s at cid len
  stands {at} {cid} {len} {next} p =
      let t = command_told (length_of rules) s (found_at (length_of rules) s at) p in
      let g = found_command (length_of rules) s t.1 in
      let cid_is : t.0.cid ≡ cid = ap (λ (h : Heading). h.cid) t.2 in
      let len_is : length t.0.body ≡ len = ap (λ (h : Heading). h.len) t.2 in
      let f = g.fits in
      let b = g.behind in
      record { known = sym (ap (length_of rules) cid_is) ∙ g.known ∙ ap some len_is; fits = omega arith }

-- ---- the line of a step, by what it is

module _ (rules : Rules) (s : List ℕ) (at : ℕ) where
  pub command_shown : {f : Step} {cid len next : ℕ} → f ≡ Step.Command cid len next
      → (c : Command) → c.rules ≡ rules → c.at ≡ at → c.cid ≡ cid → c.payload.now ≡ body_at s at len → step_line rules s at (told_step f) ≡ line_of c
  command_shown e c r a i b =
      ap (λ (f : Step). step_line rules s at (told_step f)) e
      ∙ sym (ap₂ (λ (x : Rules) (p : Placed). command_line x p) r
      (ap₂ (λ (k : ℕ) (d : Cmd). record { at = k; cmd = d }) a (ap₂ (λ (k : ℕ) (l : List ℕ). record { cid = k; body = l }) i b)))

  pub end_shown : {f : Step} → (f ≡ Step.End) ⊎ ((r : Refusal) × (f ≡ Step.Refused r)) → step_line rules s at (told_step f) ≡ last_line (end at)
  end_shown (inl e) = ap (λ (f : Step). step_line rules s at (told_step f)) e
  end_shown (inr x) = ap (λ (f : Step). step_line rules s at (told_step f)) x.1

  pub stop_shown : {f : Step} {r : Refusal} {o : ℕ} → f ≡ Step.Stop r o → step_line rules s at (told_step f) ≡ last_line (stop (number_of r) at)
  stop_shown e = ap (λ (f : Step). step_line rules s at (told_step f)) e

-- ---- any step

module _ (rules : Rules) (frame : ℕ) (s : List ℕ) where
  -- the text of the walk from an offset on
  abbrev pub rest : ℕ → List ℕ
  rest at = printed rules frame (walk_from (length_of rules) at (drop at s))

  -- the line of a step
  abbrev pub step_text : ℕ → Answer (Found Heading) → List ℕ
  step_text at x = line (in_frame frame (step_line rules s at x))

  -- what of the text is behind it
  abbrev pub rest_after : Answer (Found Heading) → List ℕ
  rest_after (given (command h next)) = rest next
  rest_after (given ended) = []
  rest_after (given (stopped n o)) = []
  rest_after (refused n) = []

  -- nothing behind a step with no command
  pub rest_none : (f : Step) → ((cid len next : ℕ) → f ≡ Step.Command cid len next → ⊥) → rest_after (told_step f) ≡ []
  rest_none (Step.Command cid len next) h = absurd (h cid len next refl)
  rest_none Step.End h = refl
  rest_none (Step.Stop r o) h = refl
  rest_none (Step.Refused r) h = refl

  pub rest_parts : (at : ℕ) → at ≤ length s → rest at ≡ step_text at (step_at (length_of rules) s at) ++ rest_after (step_at (length_of rules) s at)
  unfolding text lines_of
  rest_parts at h = by (here (length_of rules) s at)
    where
      at_step : {x y : Answer (Found Heading)} → x ≡ y → step_text at y ++ rest_after y ≡ step_text at x ++ rest_after x
      at_step e = sym (ap (λ (a : Answer (Found Heading)). step_text at a ++ rest_after a) e)

      ending_is : (e : Ending) → place_of e ≡ at → text (map (in_frame frame) (lines_of rules [] e)) ≡ step_text at (in_numbers (given (first_of [] e))) ++ rest_after (in_numbers (given (first_of [] e)))
      ending_is (end o) p = ap (λ (k : ℕ). line (in_frame frame (last_line (end k))) ++ []) p
      ending_is (stop n o) p = ap (λ (k : ℕ). line (in_frame frame (last_line (stop n k))) ++ []) p

      command_is : (c : Cmd) (next : ℕ) → Goes (length_of rules) s at c next
          → rest at ≡ step_text at (in_numbers (given (command c next))) ++ rest next
      command_is c next g =
          ap (printed rules frame) (walk_goes (length_of rules) s g) ∙ ap (λ (l : Line). line (in_frame frame l) ++ rest next) (sym (line_is rules s g))

      by : Here (length_of rules) s at → rest at ≡ step_text at (step_at (length_of rules) s at) ++ rest_after (step_at (length_of rules) s at)
      by (past g) = absurd (omega arith)
      by (ends e g x) =
          ap (printed rules frame) (walk_ends (length_of rules) x) ∙ ending_is e (ends_at (length_of rules) x)
          ∙ at_step (ap in_numbers (found_ends (length_of rules) s g x))
      by (goes c next g) = command_is c next g ∙ at_step (ap in_numbers (found_goes (length_of rules) s g))

  -- the same, where the step's answer is known
  pub rest_by : (at : ℕ) → at ≤ length s → {x : Answer (Found Heading)} → x ≡ step_at (length_of rules) s at → rest at ≡ step_text at x ++ rest_after x
  rest_by at h e = rest_parts at h ∙ ap (λ (a : Answer (Found Heading)). step_text at a ++ rest_after a) (sym e)

  pub rest_long : (at : ℕ) → at ≤ length s → {x : Answer (Found Heading)} → x ≡ step_at (length_of rules) s at
      → length (rest at) ≡ length (step_text at x) + length (rest_after x)
  rest_long at h {x} e = ap length (rest_by at h e) ∙ length-append (step_text at x) (rest_after x)

  -- ---- what the measuring pass keeps

  module _ (room : ℕ) where
    -- the lines of the commands before an offset have so many bytes, for which there is room
    pub record Summed (at sum : ℕ) : Type 0 where
      pub within : at ≤ length s
      pub small : sum ≤ room
      pub whole : length (listing_of rules frame s) ≡ sum + length (rest at)

    pub summed_none : Summed 0 0
    summed_none = record { within = omega arith; small = omega arith; whole = omega arith }

    module _ {at sum n : ℕ} (w : Summed at sum) {x : Answer (Found Heading)} (e : x ≡ step_at (length_of rules) s at) (l : n ≡ length (step_text at x)) where
      pub summed_over : room - sum < n → refused 4 ≡ length_within room (listing_of rules frame s)
      summed_over h = let a = w.small in too_long room (listing_of rules frame s) (omega (arith, w.whole, rest_long at w.within e))

      pub summed_last : rest_after x ≡ [] → n ≤ room - sum → given (sum + n) ≡ length_within room (listing_of rules frame s)
      summed_last z h =
          let a = w.small in
          let all : sum + n ≡ length (listing_of rules frame s) = omega (arith, w.whole, rest_long at w.within e, ap length z) in
          fits_in room (listing_of rules frame s) all (omega arith)

    pub summed_next : {at sum n : ℕ} (w : Summed at sum) {h : Heading} {next : ℕ} → given (command h next) ≡ step_at (length_of rules) s at
        → n ≡ length (step_text at (given (command h next))) → n ≤ room - sum → next ≤ length s → Summed next (sum + n)
    summed_next {at} w e l h g = let a = w.small in record { within = g; small = omega arith; whole = omega (arith, w.whole, rest_long at w.within e) }

  -- ---- what the writing pass keeps

  module _ (out : List ℕ) where
    -- the lines of the commands before an offset are written, and all have room
    pub record Listed (at to : ℕ) (o : List ℕ) : Type 0 where
      pub room : length (listing_of rules frame s) ≤ length out
      pub front : List ℕ
      pub within : at ≤ length s
      pub whole : listing_of rules frame s ≡ front ++ rest at
      pub puts : Puts out 0 front to o

    pub listed_none : length (listing_of rules frame s) ≤ length out → Listed 0 0 out
    listed_none h = record { room = h; front = []; within = omega arith; whole = refl; puts = puts_none out 0 (omega arith) }

    module _ {at to : ℕ} {o : List ℕ} (w : Listed at to o) {x : Answer (Found Heading)} (e : x ≡ step_at (length_of rules) s at) where
      -- the next line has room
      pub listed_room : to + length (step_text at x) ≤ length o
      listed_room =
          let b = w.puts.behind in
          let r = w.room in
          omega (arith, puts_length w.puts, ap length w.whole, length-append w.front (rest at), rest_long at w.within e)

      -- and is written
      pub listed_line : {n : ℕ} {m : List ℕ} → Left n m o to (step_text at x)
          → Puts out 0 (w.front ++ step_text at x) n m
      listed_line p =
          let b = w.puts.behind in
          puts_more (step_text at x) w.puts (omega (arith, puts_length w.puts, listed_room)) p

      line_whole : listing_of rules frame s ≡ (w.front ++ step_text at x) ++ rest_after x
      line_whole =
          w.whole ∙ ap (λ (l : List ℕ). w.front ++ l) (rest_by at w.within e)
          ∙ sym (append_assoc w.front (step_text at x) (rest_after x))

      pub listed_last : rest_after x ≡ [] → {n : ℕ} {m : List ℕ} → Left n m o to (step_text at x)
          → Left n m out 0 (listing_of rules frame s)
      listed_last z {n} {m} p =
          let all : listing_of rules frame s ≡ w.front ++ step_text at x =
          line_whole ∙ ap (λ (l : List ℕ). (w.front ++ step_text at x) ++ l) z ∙ append-nil (w.front ++ step_text at x) in
          written_of (subst (λ (t : List ℕ). Puts out 0 t n m) (sym all) (listed_line p))

    pub listed_next : {at to : ℕ} {o : List ℕ} (w : Listed at to o) {h : Heading} {next : ℕ} → given (command h next) ≡ step_at (length_of rules) s at
        → next ≤ length s → {n : ℕ} {m : List ℕ} → Left n m o to (step_text at (given (command h next))) → Listed next n m
    listed_next {at} w {h} {next} e g p = record {
      room = w.room;
      front = w.front ++ step_text at (given (command h next));
      within = g;
      whole = line_whole w e;
      puts = listed_line w e p;
    }

-- ---- a listing has eight characters at least, as that of no bytes in frame 0 has

line_six : (rules : Rules) (s : List ℕ) (at : ℕ) (x : Answer (Found Heading)) → 6 ≤ length (line (step_line rules s at x))
line_six rules s at (given (command h next)) = omega (arith, command_long rules at h.cid (body_at s at h.len), decimal_some at)
line_six rules s at (given ended) = omega (arith, end_long at, decimal_some at)
line_six rules s at (given (stopped n o)) = omega (arith, stop_long n at, decimal_some at)
line_six rules s at (refused n) = omega (arith, end_long at, decimal_some at)

pub eight_at_least : (rules : Rules) (frame : ℕ) (s : List ℕ) → 8 ≤ length (listing_of rules frame s)
eight_at_least rules frame s =
    let first : Answer (Found Heading) = step_at (length_of rules) s 0 in
    omega (arith, rest_long rules frame s 0 (omega arith) refl, frame_long frame (step_line rules s 0 first), stamp_long frame, decimal_some frame, line_six rules s 0 first)

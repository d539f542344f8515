-- What a making of entries and a jump by them can answer down, so that one number tells their answers apart. Assumes nothing.
use Prim.Native.Nat.{ℕ, zero, suc, ◌+◌, ◌*◌, ◌/◌, ◌%◌, ◌≤◌, ◌<◌}
use mathlib.Core.List.{List, []}
use mathlib.Core.Path.{◌≡◌, refl, sym, ap, ap₂, ◌∙◌, subst}
use native.Mathlib.Omega.{arith}
use lib.ListN.{length, get_or}
use Rattle.table.specs.Answers.{Answer, given, refused}
use Rattle.table.specs.Table.{length_of}
use Rattle.table.proofs.Lengths.{at_most_five, cid_from_two}
use Rattle.payloads.specs.Commands.{sent_down}
use Rattle.walk.specs.Step.{Found, ended, command, stopped, Heading, first_of, in_numbers, found_at, step_at}
use Rattle.walk.specs.Stepping.{moved_to, after_steps}
use Rattle.walk.specs.Walk.{Rule, Cmd, Ending, end, stop}
use Rattle.walk.proofs.Ownership.{count_fits}
use Rattle.walk.proofs.Steps.{Here, ends, goes, here, found_past, found_ends, found_goes, found_command, command_told, step_on}
use Rattle.walk.proofs.Steps as Steps
use Rattle.jumps.specs.Entries.{made}
use Rattle.jumps.specs.Jump.{Spot, spotted, jumped}
use Rattle.jumps.proofs.Making.{entries_count, Making, short, long, all, making}
use Rattle.jumps.proofs.Reaching.{Jumping, uncovered, past, there, jumping}
use Rattle.exports.specs.Jumps.{entries_in_one, spot_in_one, JumpsTellApart}

abbrev L : Rule
L = length_of sent_down

-- ---- how far steps lead

module _ (s : List ℕ) where
  -- a command takes at most six bytes
  moved_near : (at : ℕ) (x : Answer (Found Heading)) → step_at L s at ≡ x → moved_to x at ≤ at + 6
  moved_near at (given ended) e = omega arith
  moved_near at (given (command h next)) e =
      let t = command_told L s (found_at L s at) e in
      let five = at_most_five sent_down t.0.cid (length t.0.body) (found_command L s t.1).known in
      omega (arith, five, ap (λ (h : Heading). h.len) t.2, (step_on L s at e).0)
  moved_near at (given (stopped n o)) e = omega arith
  moved_near at (refused n) e = omega arith

  steps_near : (from n : ℕ) → after_steps L s from n ≤ from + 6 * n
  unfolding after_steps
  steps_near from zero = omega arith
  steps_near from (suc n) =
      omega (arith, steps_near from n, moved_near (after_steps L s from n) (step_at L s (after_steps L s from n)) refl)

-- ---- what a jump answers

-- a command that is no farther than that, whose CID and length are bytes; or a refusal, whose number is below those of all commands
abbrev Told : (far : ℕ) → Answer Spot → Type 0
Told far (given p) = (p.at ≤ far) × (2 ≤ p.cid) × (p.cid < 256) × (p.len < 256)
Told far (refused k) = k < 512

module _ (s : List ℕ) (at far : ℕ) (h : at ≤ far) where
  -- of what a step there finds
  abbrev Spotted : Answer (Found Cmd) → Type 0
  Spotted x = Told far (spotted at (in_numbers x))

  told_ending : (e : Ending) → Spotted (given (first_of [] e))
  told_ending (end o) = omega arith
  told_ending (stop n o) = omega arith

  told_here : Here L s at → Spotted (found_at L s at)
  told_here (Steps.past g) = subst Spotted (sym (found_past L s g)) (omega arith)
  told_here (ends e g x) = subst Spotted (sym (found_ends L s g x)) (told_ending e)
  told_here (goes c next g) =
      let cid = cid_from_two sent_down c.cid (length c.body) g.known in
      let len = at_most_five sent_down c.cid (length c.body) g.known in
      subst Spotted (sym (found_goes L s g)) (h, cid.0, cid.1, omega (arith, len))

-- fifteen steps of six bytes from the entry that covers a command
abbrev farthest : (entries : List ℕ) → ℕ → ℕ
farthest entries n = get_or entries (n / 16) 0 + 90

module _ (s entries : List ℕ) (n : ℕ) where
  told_jumped : Told (farthest entries n) (jumped L s entries n)
  told_jumped = by (jumping L s entries n)
    where
      by : {a : Answer Spot} → Jumping L s entries n a → Told (farthest entries n) a
      by (uncovered h) = omega arith
      by (past h g) = omega arith
      by (there h g) =
          let reached : ℕ = after_steps L s (get_or entries (n / 16) 0) (n % 16) in
          told_here s reached (farthest entries n) (omega (arith, steps_near s (get_or entries (n / 16) 0) (n % 16))) (here L s reached)

  -- from an entry of 32 bits the number has no more than 64
  pub spot_fits : {a : Answer Spot} {p : Spot} → get_or entries (n / 16) 0 < 4_294_967_296 → a ≡ jumped L s entries n → a ≡ given p
      → spot_in_one (given p) < 18_446_744_073_709_551_616
  spot_fits h e f = let t = subst (Told (farthest entries n)) (sym e ∙ f) told_jumped in omega (arith, t.0, t.2, t.3)

-- ---- what the making answers

-- fewer entries than 2 ^ 32, or a refusal with a number above 0
abbrev Few : Answer ℕ → Type 0
Few (given n) = n < 4_294_967_296
Few (refused k) = 1 ≤ k

few_made : (s numbers : List ℕ) → Few (made L s numbers).0
few_made s numbers = by (making L s numbers)
  where
    by : {o : Answer ℕ × List ℕ} → Making L s numbers o → Few o.0
    by (short h) = omega arith
    by (long h g) = omega arith
    by (all h g) = omega (arith, entries_count L s, count_fits L s)

-- ---- told apart

same_spot : (p q : Spot) → p.at ≡ q.at → p.cid ≡ q.cid → p.len ≡ q.len → p ≡ q
same_spot p q a c l =
    ap (λ (k : ℕ). record { at = k; cid = p.cid; len = p.len }) a ∙ ap₂ (λ (k m : ℕ). record { at = q.at; cid = k; len = m }) c l

jumps_apart : (m n : ℕ) (a b : Answer Spot) → Told m a → Told n b → spot_in_one a ≡ spot_in_one b → a ≡ b
jumps_apart m n (given p) (given q) t u e =
    ap given
    (same_spot p q (omega (arith, t.2, t.3, u.2, u.3)) (omega (arith, t.2, t.3, u.2, u.3)) (omega (arith, t.2, t.3, u.2, u.3)))
jumps_apart m n (given p) (refused k) t u e = absurd (omega (arith, t.1))
jumps_apart m n (refused k) (given q) t u e = absurd (omega (arith, u.1))
jumps_apart m n (refused k) (refused j) t u e = ap refused e

makings_apart : (a b : Answer ℕ) → Few a → Few b → entries_in_one a ≡ entries_in_one b → a ≡ b
makings_apart (given m) (given n) t u e = ap given e
makings_apart (given m) (refused k) t u e = absurd (omega arith)
makings_apart (refused k) (given n) t u e = absurd (omega arith)
makings_apart (refused k) (refused j) t u e = ap refused (omega arith)

pub jumps_tell_apart : JumpsTellApart
jumps_tell_apart = record {
  count = λ s o n e. subst Few e (few_made s o);
  no_count = λ s o k e. let above : 1 ≤ k = subst Few e (few_made s o) in omega arith;
  spot = λ s e n x q.
      let t = subst (Told (farthest e n)) q (told_jumped s e n) in
      (t.2, t.3, omega (arith, t.1));
  no_spot = λ s e n k q. subst (Told (farthest e n)) q (told_jumped s e n);
  makings = λ s t o p e. makings_apart (made L s o).0 (made L t p).0 (few_made s o) (few_made t p) e;
  jumps = λ s t e f m n q.
      jumps_apart (farthest e m) (farthest f n) (jumped L s e m) (jumped L t f n) (told_jumped s e m) (told_jumped t f n) q;
}

-- Lines taken one after another. Assumes nothing.
use Prim.Native.Nat.{ℕ, ◌<◌, ◌≤◌}
use mathlib.Core.List.{List, [], ◌∷◌}
use mathlib.Core.Option.{Option, none, some}
use mathlib.Core.Path.{◌≡◌, refl, sym, ap, ◌∙◌}
use native.Mathlib.Omega.{arith}
use lib.ListN.{length, drop}
use Rattle.table.specs.Answers.{Answer, given, refused, accepted}
use Rattle.table.specs.declared.rules.Rules.{Rules}
use Rattle.ledger.specs.Book.{Book, steps, counted, taken, going, taken_all, replayed}
use Rattle.ledger.specs.Events.{Event, events_of, following, rules_for}
use Rattle.ledger.specs.Trace.{TraceLine, lines_of}
use Rattle.ledger.specs.Working.{book_in, fault_in, ended, events_from, front_at, by_taken, at_line}
use Rattle.ledger.specs.declared.memory.Queue.{Queue}
use Rattle.ledger.specs.declared.memory.Parents.{Parents}
use Rattle.ledger.proofs.Tracing.{lines_end, line_read, none_read}

abbrev both : Answer ℕ → Book → Answer ℕ × Book
both a c = (a, c)

abbrev told : Answer ℕ × Book → Answer ℕ
told x = x.0

abbrev left : Answer ℕ × Book → Book
left x = x.1

apart : (n k : ℕ) → ◌≡◌ {A = Answer ℕ} (given n) (refused k) → ⊥
apart n k e = let no_way : ◌≡◌ {A = ℕ} 0 1 = cc in omega arith

-- ---- a line

-- the events of a line are those of its stream, from the beginning
pub line_events : (rules : Rules) (l : TraceLine) (n : ℕ) → rules.direction ≡ l.direction → events_from rules n l.frame l.stream 0 ≡ events_of n l
unfolding events_from events_of
line_events rules l n e =
    let same : rules ≡ rules_for l = λ i. record { direction = e i } in
    ap (λ (r : Rules). events_from r n l.frame l.stream 0) same

-- a verdict on a line's events is theirs
ended_given : (a : Answer Book) → accepted ≡ ended a → fault_in a ≡ 0
ended_given (given c) e = refl
ended_given (refused k) e = cc

ended_refused : (a : Answer Book) (k : ℕ) → refused k ≡ ended a → a ≡ refused k
ended_refused (given c) k e = cc
ended_refused (refused j) k e = cc

-- the line in front is refused
pub line_refused : (text : List ℕ) (at lines listed k : ℕ) (p : List Queue) (h : List Parents) (l : List ℕ) (x : TraceLine) (next : ℕ) (rules : Rules) → front_at text at ≡ some (x, next)
    → rules.direction ≡ x.direction
    → refused k ≡ ended (steps (events_from rules (following lines) x.frame x.stream 0) (book_in (following lines) listed p h l))
    → (refused k, book_in lines listed p h l) ≡ at_line (front_at text at) (book_in lines listed p h l)
line_refused text at lines listed k p h l x next rules e d is =
    let b = book_in lines listed p h l in
    let events = line_events rules x (following lines) d in
    let refusal : taken (some x) b ≡ refused k =
    ap (λ (es : List Event). steps es (counted b)) (sym events) ∙ ended_refused _ k is in
    sym (ap (λ (o : Option (TraceLine × ℕ)). at_line o b) e ∙ ap (λ (a : Answer Book). by_taken a next b) refusal)

-- or taken
pub line_taken : (text : List ℕ) (at lines listed : ℕ) (p : List Queue) (h : List Parents) (l : List ℕ) (x : TraceLine) (next : ℕ) (rules : Rules) {c : Book} → front_at text at ≡ some (x, next)
    → rules.direction ≡ x.direction
    → given c ≡ steps (events_from rules (following lines) x.frame x.stream 0) (book_in (following lines) listed p h l)
    → (given next, c) ≡ at_line (front_at text at) (book_in lines listed p h l)
line_taken text at lines listed p h l x next rules {c} e d is =
    let b = book_in lines listed p h l in
    let events = line_events rules x (following lines) d in
    let gives : taken (some x) b ≡ given c = ap (λ (es : List Event). steps es (counted b)) (sym events) ∙ sym is in
    sym (ap (λ (o : Option (TraceLine × ℕ)). at_line o b) e ∙ ap (λ (a : Answer Book). by_taken a next b) gives)

-- ---- line after line

-- the lines from an offset on, from the book b, come to what all of them come to from the book b₀
pub record Followed (text : List ℕ) (b₀ : Book) (at : ℕ) (b : Book) : Type 0 where
  pub within : at ≤ length text
  pub same : taken_all (lines_of (drop at text)) b ≡ replayed text b₀

module _ (text : List ℕ) (b₀ : Book) {at : ℕ} {b : Book} (i : Followed text b₀ at b) where
  pub at_text_end : length text ≤ at → (accepted, 0, b) ≡ replayed text b₀
  unfolding taken_all
  at_text_end h = ap (λ (ls : List (Option TraceLine)). taken_all ls b) (sym (lines_end text at h)) ∙ i.same

  -- what is known behind a line that was taken
  pub record Onward (next : ℕ) (c : Book) : Type 0 where
    pub on : at < next
    pub followed : Followed text b₀ next c

  pub line_on : (next : ℕ) (c : Book) → (given next, c) ≡ at_line (front_at text at) b → Onward next c
  unfolding taken_all
  line_on next c e = by (front_at text at) refl e
    where
      by-taken : (x : TraceLine × ℕ) → front_at text at ≡ some x → (a : Answer Book) → taken (some x.0) b ≡ a → ◌≡◌ {A = Answer ℕ × Book} (given next, c) (by_taken a x.1 b) → Onward next c
      by-taken x q (given d) t e =
          let r = line_read text at x.0 x.1 q in
          let told_is : given next ≡ given x.1 = ap told e in
          let next_is : x.1 ≡ next = cc in
          let book_is : d ≡ c = sym (ap left e) in
          let lines = r.lines in
          record {
            on = omega (arith, r.on, next_is);
            followed = record {
              within = omega (arith, r.within, next_is);
              same =
                  ap (λ (n : ℕ). taken_all (lines_of (drop n text)) c) (sym next_is) ∙ ap (taken_all (lines_of (drop x.1 text))) (sym book_is)
                  ∙ sym (ap (λ (a : Answer Book). going a b (taken_all (lines_of (drop x.1 text)))) t)
                  ∙ ap (λ (ls : List (Option TraceLine)). taken_all ls b) (sym lines) ∙ i.same;
            };
          }
      by-taken x q (refused j) t e = absurd (apart next j (ap told e))

      by : (o : Option (TraceLine × ℕ)) → front_at text at ≡ o → ◌≡◌ {A = Answer ℕ × Book} (given next, c) (at_line o b) → Onward next c
      by none q e = absurd (apart next 18 (ap told e))
      by (some x) q e = by-taken x q (taken (some x.0) b) refl e

  pub line_stops : (k : ℕ) (c : Book) → at < length text → (refused k, c) ≡ at_line (front_at text at) b
      → (refused k, following b.lines, c) ≡ replayed text b₀
  unfolding taken_all
  line_stops k c h e = by (front_at text at) refl e ∙ i.same
    where
      stopped : (o : Option TraceLine) (ls : List (Option TraceLine)) → taken o b ≡ refused k → c ≡ b → (refused k, following b.lines, c) ≡ taken_all (o ∷ ls) b
      stopped o ls t s =
          ap (λ (d : Book). (refused k, following b.lines, d)) s ∙ sym (ap (λ (a : Answer Book). going a b (taken_all ls)) t)

      by-taken : (x : TraceLine × ℕ) → front_at text at ≡ some x → (a : Answer Book) → taken (some x.0) b ≡ a → ◌≡◌ {A = Answer ℕ × Book} (refused k, c) (by_taken a x.1 b)
          → (refused k, following b.lines, c) ≡ taken_all (lines_of (drop at text)) b
      by-taken x q (given d) t e = absurd (apart x.1 k (sym (ap told e)))
      by-taken x q (refused j) t e =
          let told_is : ◌≡◌ {A = Answer ℕ} (refused k) (refused j) = ap told e in
          let j_is : j ≡ k = cc in
          let same_book : c ≡ b = ap left e in
          stopped (some x.0) (lines_of (drop x.1 text)) (t ∙ ap refused j_is) same_book ∙ ap (λ (ls : List (Option TraceLine)). taken_all ls b) (sym (line_read text at x.0 x.1 q).lines)

      by : (o : Option (TraceLine × ℕ)) → front_at text at ≡ o → ◌≡◌ {A = Answer ℕ × Book} (refused k, c) (at_line o b) → (refused k, following b.lines, c) ≡ taken_all (lines_of (drop at text)) b
      by none q e =
          let told_is : ◌≡◌ {A = Answer ℕ} (refused k) (refused 18) = ap told e in
          let k_is : 18 ≡ k = cc in
          let same_book : c ≡ b = ap left e in
          stopped none [] (ap refused k_is) same_book ∙ ap (λ (ls : List (Option TraceLine)). taken_all ls b) (sym (none_read text at h q))
      by (some x) q e = by-taken x q (taken (some x.0) b) refl e

-- Bytes written over lent memory, and bytes behind bytes. Assumes nothing.
use Prim.Native.Nat.{ℕ, suc, ◌+◌, ◌<◌, ◌≤◌}
use mathlib.Core.Path.{◌≡◌, refl, sym, ap, ap₂, ◌∙◌}
use mathlib.Core.List.{List, [], ◌∷◌, ◌++◌, append_assoc, append-nil}
use native.Mathlib.Decide.{dec_le}
use native.Mathlib.Nat.{add-zero, zero-add}
use native.Mathlib.Numerals.{add-one}
use native.Mathlib.Omega.{arith}
use lib.ListN.{length, get_or, set, take, drop, length-append, length-drop, take-append-drop}
use lib.Seq.{take-suc, set_at, append_snoc, take-append_seam, length-take-le, drop-append-add, drop-drop}
use borrow.Author.Tests.{le-leb, lt-leb}
use Rattle.bits.specs.Memory.{over, written_at}

-- ---- memory with bytes over it

to_end : (o : List ℕ) (at : ℕ) (b : List ℕ) → at ≤ length o → length (take at o ++ b) ≡ at + length b
to_end o at b h = length-append (take at o) b ∙ ap (λ (k : ℕ). k + length b) (length-take-le at o h)

-- up to the end of the first of the bytes
pub over_take : (o : List ℕ) (at : ℕ) (b x : List ℕ) → at ≤ length o → take (at + length b) (over o at (b ++ x)) ≡ take at o ++ b
over_take o at b x h =
    let rest : List ℕ = drop (at + length (b ++ x)) o in
    let parts : over o at (b ++ x) ≡ (take at o ++ b) ++ (x ++ rest) =
    ap (λ (l : List ℕ). take at o ++ l) (append_assoc b x rest) ∙ sym (append_assoc (take at o) b (x ++ rest)) in
    ap (λ (k : ℕ). take k (over o at (b ++ x))) (sym (to_end o at b h))
    ∙ ap (take (length (take at o ++ b))) parts
    ∙ take-append_seam (take at o ++ b) (x ++ rest)

module _ (o : List ℕ) (at : ℕ) (w : List ℕ) (h : at + length w ≤ length o) where
  parts : over o at w ≡ (take at o ++ w) ++ drop (at + length w) o
  parts = sym (append_assoc (take at o) w (drop (at + length w) o))

  -- up to the bytes' end
  over_whole : take (at + length w) (over o at w) ≡ take at o ++ w
  over_whole = ap (λ (b : List ℕ). take (at + length w) (over o at b)) (sym (append-nil w)) ∙ over_take o at w [] (omega arith)

  -- from an offset on that is behind them all
  pub over_drop : (k : ℕ) → drop (at + length w + k) (over o at w) ≡ drop (at + length w + k) o
  over_drop k =
      ap (λ (n : ℕ). drop (n + k) (over o at w)) (sym (to_end o at w (omega arith)))
      ∙ ap (drop (length (take at o ++ w) + k)) parts
      ∙ drop-append-add (take at o ++ w) (drop (at + length w) o) k
      ∙ drop-drop k (at + length w) o

  pub over_length : length (over o at w) ≡ length o
  over_length =
      ap length parts
      ∙ length-append (take at o ++ w) (drop (at + length w) o)
      ∙ omega (arith, to_end o at w (omega arith), length-drop (at + length w) o)

  -- more bytes, where these end
  over_over : (v : List ℕ) → over (over o at w) (at + length w) v ≡ over o at (w ++ v)
  over_over v =
      let e : at + length w + length v ≡ at + length (w ++ v) = omega (arith, length-append w v) in
      ap₂ (λ (x y : List ℕ). x ++ (v ++ y)) over_whole (over_drop (length v) ∙ ap (λ (k : ℕ). drop k o) e)
      ∙ append_assoc (take at o) w (v ++ drop (at + length (w ++ v)) o)
      ∙ ap (λ (x : List ℕ). take at o ++ x) (sym (append_assoc w v (drop (at + length (w ++ v)) o)))

-- at the front
pub over_front : (out b : List ℕ) → over out 0 b ≡ b ++ drop (length b) out
over_front out b = ap (λ (k : ℕ). b ++ drop k out) (zero-add (length b))

pub over_none : (o : List ℕ) (at : ℕ) → over o at [] ≡ o
over_none o at = ap (λ (k : ℕ). take at o ++ drop k o) (add-zero at) ∙ take-append-drop at o

-- a byte stored in front of bytes
pub over_before : (o : List ℕ) (j c : ℕ) (t : List ℕ) → j < length o → set (over o (j + 1) t) j c ≡ over o j (c ∷ t)
over_before o j c t h =
    let rest : List ℕ = t ++ drop (j + 1 + length t) o in
    let e : j + 1 + length t ≡ j + suc (length t) = omega arith in
    let front : take (j + 1) o ≡ take j o ++ (get_or o j 0 ∷ []) = ap (λ (k : ℕ). take k o) (add-one j) ∙ take-suc o j 0 h in
    ap (λ (x : List ℕ). set (x ++ rest) j c) front
    ∙ ap (λ (x : List ℕ). set x j c) (append_snoc (take j o) (get_or o j 0) rest)
    ∙ set_at (take j o) (get_or o j 0) rest c j (length-take-le j o (omega arith))
    ∙ ap (λ (k : ℕ). take j o ++ (c ∷ (t ++ drop k o))) e

over_one : (o : List ℕ) (j c : ℕ) → j < length o → set o j c ≡ over o j (c ∷ [])
over_one o j c h = ap (λ (x : List ℕ). set x j c) (sym (over_none o (j + 1))) ∙ over_before o j c [] h

-- ---- bytes written, or not

-- what writing bytes leaves: the offset behind, and memory
abbrev pub Left : ℕ → List ℕ → List ℕ → ℕ → List ℕ → Type 0
Left next o out at bytes = ◌≡◌ {A = ℕ × List ℕ} (next, o) (written_at out at bytes)

pub no_room : (out : List ℕ) (at : ℕ) (bytes : List ℕ) → length out < at + length bytes → (at, out) ≡ written_at out at bytes
unfolding written_at
no_room out at bytes h = simp (lt-leb (at + length bytes) (length out) h)

pub room : (out : List ℕ) (at : ℕ) (bytes : List ℕ) → at + length bytes ≤ length out → (at + length bytes, over out at bytes) ≡ written_at out at bytes
unfolding written_at
room out at bytes h = simp (le-leb (at + length bytes) (length out) h)

-- no bytes: whether or not there is such an offset, nothing changes
pub written_nothing : (out : List ℕ) (at : ℕ) → (at, out) ≡ written_at out at []
written_nothing out at = by (dec_le (at + 0) (length out))
  where
    by : Dec (at + 0 ≤ length out) → (at, out) ≡ written_at out at []
    by (yes h) = ap₂ (λ (n : ℕ) (x : List ℕ). (n, x)) (sym (add-zero at)) (sym (over_none out at)) ∙ room out at [] h
    by (no h) = no_room out at [] (omega arith)

-- what writers that follow one another keep: bytes that had room stand there, and `next` is where they end
pub record Puts (out : List ℕ) (at : ℕ) (bytes : List ℕ) (next : ℕ) (o : List ℕ) : Type 0 where
  pub fits : at + length bytes ≤ length out
  pub behind : next ≡ at + length bytes
  pub memory : o ≡ over out at bytes

module _ {out : List ℕ} {at : ℕ} {bytes : List ℕ} {next : ℕ} {o : List ℕ} where
  pub puts_of : at + length bytes ≤ length out → Left next o out at bytes → Puts out at bytes next o
  puts_of h e =
      let q : ◌≡◌ {A = ℕ × List ℕ} (next, o) (at + length bytes, over out at bytes) = e ∙ sym (room out at bytes h) in
      record { fits = h; behind = ap (λ x. x.0) q; memory = ap (λ x. x.1) q }

  pub written_of : Puts out at bytes next o → Left next o out at bytes
  written_of p = ap₂ (λ (n : ℕ) (x : List ℕ). (n, x)) p.behind p.memory ∙ room out at bytes p.fits

  pub puts_length : Puts out at bytes next o → length o ≡ length out
  puts_length p = ap length p.memory ∙ over_length out at bytes p.fits

  pub puts_then : {more : List ℕ} {n : ℕ} {m : List ℕ} → Puts out at bytes next o → Puts o next more n m → Puts out at (bytes ++ more) n m
  puts_then {more} {n} {m} p q =
      let l = puts_length p in
      let f = q.fits in
      let b = p.behind in
      let g = q.behind in
      record {
        fits = omega (arith, length-append bytes more);
        behind = omega (arith, length-append bytes more);
        memory = q.memory ∙ ap₂ (λ (x : List ℕ) (k : ℕ). over x k more) p.memory p.behind ∙ over_over out at bytes p.fits more;
      }

-- one run more, which has room
pub puts_more : {out : List ℕ} {at : ℕ} {bytes : List ℕ} {next : ℕ} {o : List ℕ} {n : ℕ} {m : List ℕ} (more : List ℕ) → Puts out at bytes next o
    → at + length bytes + length more ≤ length out → Left n m o next more → Puts out at (bytes ++ more) n m
puts_more more p h e = let b = p.behind in let l = puts_length p in puts_then p (puts_of (omega arith) e)

pub puts_none : (out : List ℕ) (at : ℕ) → at ≤ length out → Puts out at [] at out
puts_none out at h = record { fits = omega arith; behind = omega arith; memory = sym (over_none out at) }

pub puts_one : (out : List ℕ) (at c : ℕ) → at < length out → Puts out at (c ∷ []) (at + 1) (set out at c)
puts_one out at c h = record { fits = omega arith; behind = refl; memory = over_one out at c h }

-- What is asked of a ledger: what is answered of a row is what is shown of the setting, for every setting and every memory; a channel that is not
-- held has no parent; and a ledger before its first line holds nothing. Assumes nothing.
use Prim.Native.Nat.{ℕ, zero, suc, ◌<◌}
use mathlib.Core.List.{List, [], map}
use mathlib.Core.Path.{◌≡◌, refl, ap, ap₂, fun_ext}
use native.Mathlib.Omega.{arith}
use lib.Dec.{eqb}
use lib.ListN.{get_or, replicate}
use Rattle.bits.specs.Bits.{bit_of, bit_on, field}
use Rattle.ledger.specs.Asked.{fresh_ledger}
use Rattle.ledger.specs.Events.{Request}
use Rattle.ledger.specs.Memory.{request_of, open_requests, row_of, parents_in, held_in, book_of, fresh_queue, no_queue, no_parents}
use Rattle.ledger.specs.Settings.{Setting, writer}
use Rattle.ledger.specs.declared.memory.Parents.{Parents}

-- ---- a setting's parent

-- ---- a bit as a number

below_two : (n : ℕ) → n < 2 → bit_of (eqb n 1) ≡ n
below_two zero h = refl
below_two (suc zero) h = refl
below_two (suc (suc n)) h = absurd (omega arith)

pub bit_said : (k b : ℕ) → bit_of (bit_on k b) ≡ field k 1 b
bit_said k b = below_two (field k 1 b) (omega arith)

-- ---- what holds nothing

fresh_pending : (n c d : ℕ) → open_requests c (get_or (replicate n fresh_queue) d no_queue) ≡ []
fresh_pending zero c d = refl
fresh_pending (suc n) c zero = refl
fresh_pending (suc n) c (suc d) = fresh_pending n c d

fresh_row : (n p : ℕ) → get_or (replicate n no_parents) p no_parents ≡ no_parents
fresh_row zero p = refl
fresh_row (suc n) zero = refl
fresh_row (suc n) (suc p) = fresh_row n p

fresh_held : (σ : Setting) → held_in (replicate 37 no_parents) σ ≡ []
fresh_held σ = ap (λ (p : Parents). map (request_of (writer σ).cid) (parents_in p)) (fresh_row 37 (row_of σ))

-- a ledger before its first line: no line is taken and nothing is listed, pending or held
pub fresh_is : (list : List ℕ)
    → book_of fresh_ledger list ≡ record { lines = 0; listed = 0; pending = λ c. []; held = λ σ. []; list = list }
fresh_is list =
    ap₂ (λ (p : ℕ → List Request) (h : Setting → List Request). record { lines = 0; listed = 0; pending = p; held = h; list = list })
    (fun_ext (λ c. fresh_pending 16 c c)) (fun_ext fresh_held)

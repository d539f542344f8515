-- `from_frame` meets its contract. Assumes nothing.
use Prim.Native.Nat.{ℕ, ◌+◌, ◌-◌}
use mathlib.Core.List.{List}
use mathlib.Core.Path.{◌≡◌, sym, ap, ap₂, ◌∙◌}
use native.Mathlib.Omega.{arith}
use lib.ListN.{length, take, drop, length-drop}
use lib.Seq.{length-take-le}
use Rattle.build.specs.Records.{stamped}
use Rattle.build.proofs.AsRecords.{five, five_is}
use Rattle.build.proofs.handed.from_frame.Goals as goal

pub returns : goal.returns
returns c =
    let a = c.args in
    let s = a.stream.now in
    let behind : List ℕ = drop (a.at + 1) s in
    let m : length behind ≡ length s - (a.at + 1) = length-drop (a.at + 1) s in
    let l : length (take a.len behind) ≡ a.len = length-take-le a.len behind (omega (arith, c.requires)) in
    let n : a.at + 1 + a.len - (a.at + 1) ≡ a.len = omega arith in
    rw (
      c.byte.ensures,
      c.byte-2.ensures,
      c.byte-3.ensures,
      c.byte-4.ensures,
      c.byte-5.ensures,
    )
    (ap (λ (k : ℕ). stamped a.frame a.at (record { cid = a.cid; len = a.len; bytes = five (take k behind) })) n
    ∙ ap₂ (λ (k : ℕ) (b : List ℕ). stamped a.frame a.at (record { cid = a.cid; len = k; bytes = b })) (sym l) (five_is (take a.len behind)))

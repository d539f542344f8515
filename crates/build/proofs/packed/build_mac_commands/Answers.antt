-- `build_mac_commands` meets its contract. Assumes nothing.
use mathlib.Core.Bool.{not}
use mathlib.Core.List.{List, map}
use mathlib.Core.Path.{ap, ◌∙◌}
use Prim.Native.Nat.{ℕ}
use Rattle.table.specs.Table.{length_of}
use Rattle.build.specs.Build.{build_of}
use Rattle.build.specs.Records.{Item, slot_at, listed}
use Rattle.build.proofs.Slots.{slots_listed}
use Rattle.build.proofs.packed.build_mac_commands.Goals as goal

pub returns : goal.returns
returns c =
    let chunks = c.as_chunks in
    let out = c.args.out.now in
    c.build_list.ensures
    ∙ ap (λ b. build_of (length_of c.args.rules) (listed (map (λ (x : List ℕ). slot_at x 0) chunks.result.0.now) (not b)) out) c.is_empty.ensures
    ∙ ap (λ (xs : List Item). build_of (length_of c.args.rules) xs out) (slots_listed c.args.records.now chunks.result.1.now chunks.result.0.now chunks.ensures.front chunks.ensures.back_len)

-- `mac_commands_len` meets its contract. Assumes nothing.
use mathlib.Core.Bool.{not}
use mathlib.Core.List.{List, map}
use mathlib.Core.Path.{ap, ◌∙◌}
use Prim.Native.Nat.{ℕ}
use Rattle.table.specs.Table.{length_of}
use Rattle.build.specs.Build.{total_of}
use Rattle.build.specs.Records.{slot_at, listed}
use Rattle.build.proofs.Slots.{slots_listed}
use Rattle.build.proofs.packed.mac_commands_len.Goals as goal

pub returns : goal.returns
returns c =
    let chunks = c.as_chunks in
    c.list_len.ensures.total
    ∙ ap (λ b. total_of (length_of c.args.rules) (listed (map (λ (x : List ℕ). slot_at x 0) chunks.result.0.now) (not b))) c.is_empty.ensures
    ∙ ap (total_of (length_of c.args.rules)) (slots_listed c.args.records.now chunks.result.1.now chunks.result.0.now chunks.ensures.front chunks.ensures.back_len)

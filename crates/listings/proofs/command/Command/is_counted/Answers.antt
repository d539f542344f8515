-- `is_counted` meets its contract. Assumes nothing.
use mathlib.Core.Path.{sym, ap, ◌∙◌}
use Rattle.table.specs.declared.rules.Direction.{Direction}
use Rattle.listings.proofs.Lining.{counted_in, counted_is}
use Rattle.listings.proofs.command.Command.is_counted.Goals as goal

pub returns-in-Down : goal.returns-in-Down
returns-in-Down c =
    let a = c.args.self in
    sym (counted_is a.rules.direction a.cid ∙ ap (λ (d : Direction). counted_in d a.cid) c.in-Down.is)

pub returns-in-Up : goal.returns-in-Up
returns-in-Up c =
    let a = c.args.self in
    sym (counted_is a.rules.direction a.cid ∙ ap (λ (d : Direction). counted_in d a.cid) c.in-Up.is)

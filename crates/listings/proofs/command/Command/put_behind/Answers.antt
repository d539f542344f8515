-- `put_behind` meets its contract. Assumes nothing.
use mathlib.Core.Path.{sym, ◌∙◌}
use Rattle.listings.specs.Listing.{channels}
use Rattle.listings.proofs.Putting.{counted_put}
use Rattle.listings.proofs.command.Command.put_behind.Goals as goal

pub returns-then-is_counted : goal.returns-then-is_counted
returns-then-is_counted c =
    let a = c.args in
    counted_put a.out.now a.to (channels a.self.payload.now) (sym c.is_counted.ensures ∙ c.if-is_counted.true) c.requires c.channels.ensures
    c.put_byte-a.ensures
    c.put_decimal-b.ensures
    c.put_byte.ensures

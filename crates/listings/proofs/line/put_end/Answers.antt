-- `put_end` meets its contract. Assumes nothing.
use Rattle.text.specs.Characters.{ascii}
use Rattle.listings.proofs.Putting.{end_put}
use Rattle.listings.proofs.line.put_end.Goals as goal

pub returns : goal.returns
unfolding ascii
returns c =
    end_put c.args.out.now c.args.to c.args.at c.requires c.put_decimal-a.ensures c.put_bytes.ensures

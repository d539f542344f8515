-- `put_before` meets its contract. Assumes nothing.
use Rattle.listings.proofs.Putting.{before_put}
use Rattle.listings.proofs.command.Command.put_before.Goals as goal

pub returns : goal.returns
returns c =
    let a = c.args in
    before_put a.self.rules a.self.at a.self.cid a.out.now a.to c.requires
    c.put_decimal-a.ensures
    c.letter.ensures
    c.put_bytes-b.ensures
    c.put_hex-c.ensures
    c.put_byte-d.ensures
    c.put_name-e.ensures
    c.put_byte.ensures

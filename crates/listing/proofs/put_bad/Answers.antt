-- There is room for the line, so it stands at the front.
use Rattle.std.proofs.Common.{arith}
use Rattle.text.specs.Characters.{ascii}
use Rattle.text.specs.Lines.{joined}
use Rattle.listing.specs.Program.{bad_input}
use Rattle.listing.proofs.Printing.{front_put, bad_few}
use Rattle.listing.proofs.put_bad.Goals as goal

pub returns : goal.returns
unfolding bad_input joined ascii
returns c =
    let r = c.requires in
    front_put bad_input c.args.out.now (omega (arith, bad_few)) c.put_bytes.ensures

-- Not for the auditor: only private functions cite this. What a command of the code shows of the stream that it is part of.
use Rattle.std.specs.Prelude.{ℕ, List}
use Rattle.walk.specs.Walk.{placed}
use Rattle.text.specs.Lines.{Line}
use Rattle.listings.specs.declared.command.Command.{Command}
use Rattle.listings.specs.Listing.{channels, command_line}
use Rattle.listings.specs.Passes as Passes

abbrev pub line_of : Command → Line
line_of c = command_line c.rules (placed c.at c.cid c.payload.now)

abbrev pub before : Command → List ℕ
before c = Passes.before c.rules c.at c.cid

abbrev pub behind : Command → List ℕ
behind c = Passes.behind (Passes.is_counted c.rules c.cid) (channels c.payload.now)

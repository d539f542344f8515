-- `line_len` meets its contract, by the answers of a step. Assumes nothing.
use mathlib.Core.Path.{sym, ap, ◌∙◌}
use Rattle.walk.specs.Told.{told_step}
use Rattle.listings.proofs.Walking.{stands}
use Rattle.listings.proofs.line.line_len.Goals as goal

pub new-requires : goal.new-requires
new-requires c = stands c.args.rules c.args.stream.now (sym c.requires ∙ ap told_step c.in-Command.is)

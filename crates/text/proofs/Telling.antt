-- What a reader of a text can rely on. Assumes nothing.
use Rattle.text.specs.Telling.{OneSpelling, BytesBack, ToldApart}
use Rattle.text.proofs.Decimals.{value_decimal, decimal_numeral, numeral_spelled}
use Rattle.text.proofs.Hexes.{hex_pairs, hex_back, pairs_bytes, pairs_spelled}
use Rattle.text.proofs.Lines.{line_apart, text_apart, text_ended, parted}

pub one_spelling : OneSpelling
one_spelling = record { numeral = decimal_numeral; back = value_decimal; only = numeral_spelled }

pub bytes_back : BytesBack
bytes_back = record { pairs = hex_pairs; back = hex_back; bytes = pairs_bytes; only = pairs_spelled }

pub told_apart : ToldApart
told_apart = record { lines = line_apart; texts = text_apart; ended = text_ended; parted = parted }

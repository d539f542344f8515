-- Any two outcomes that a public function's contract admits are equal. Assumes nothing.
use mathlib.Core.Path.{sym, ◌∙◌}
use Rattle.bits.proofs.Fixed.{Fixed, FixedWith}
use Rattle.text.proofs.decimal.decimal_len.Reads as decimal_len
use Rattle.text.proofs.decimal.put_decimal.Reads as put_decimal
use Rattle.text.proofs.hex.put_hex.Reads as put_hex
use Rattle.text.proofs.hex.put_hexes.Reads as put_hexes
use Rattle.text.proofs.names.name_len.Reads as name_len
use Rattle.text.proofs.names.put_name.Reads as put_name
use Rattle.text.proofs.raw.put_byte.Reads as put_byte
use Rattle.text.proofs.raw.put_bytes.Reads as put_bytes

decimal_len_one : Fixed decimal_len.Post
decimal_len_one _ _ _ _ _ _ p q = p ∙ sym q

put_decimal_one : FixedWith (λ s. s.0.now) put_decimal.Post
put_decimal_one _ _ _ _ _ _ p q = p ∙ sym q

put_hex_one : FixedWith (λ s. s.0.now) put_hex.Post
put_hex_one _ _ _ _ _ _ p q = p ∙ sym q

put_hexes_one : FixedWith (λ s. s.0.now) put_hexes.Post
put_hexes_one _ _ _ _ _ _ p q = p ∙ sym q

name_len_one : Fixed name_len.Post
name_len_one _ _ _ _ _ _ p q = p ∙ sym q

put_name_one : FixedWith (λ s. s.1.0.now) put_name.Post
put_name_one _ _ _ _ _ _ p q = p ∙ sym q

put_byte_one : FixedWith (λ s. s.0.now) put_byte.Post
put_byte_one _ _ _ _ _ _ p q = p ∙ sym q

put_bytes_one : FixedWith (λ s. s.0.now) put_bytes.Post
put_bytes_one _ _ _ _ _ _ p q = p ∙ sym q

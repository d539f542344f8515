-- ChannelMask (RULES: S6 to S12; the standard, 5.2), at every width: the bytes of a mask are a list, and its width is the list's length.
use Rattle.std.specs.Prelude.{ℕ, ◌+◌, ◌*◌, ◌/◌, ◌%◌, Bool, cond, List, [], ◌∷◌, ltb, get_or, set, length, replicate, take}
use Rattle.bits.specs.Bits.{set_field, bit_on, bit_of}
use Rattle.table.specs.Answers.{Answer, given, refused, Consent, accepted}
use Rattle.fields.specs.Lists.{tabulate}

-- S7: eight channels to a byte, the first of them in its lowest bit
abbrev pub channel_on : List ℕ → ℕ → Bool
channel_on m c = bit_on (c % 8) (get_or m (c / 8) 0)

-- S8: every channel is on
abbrev pub all_on : ℕ → List ℕ
all_on width = replicate width 255

-- from a slice: its first bytes, as many as the mask has. From a shorter one refusal 4, BufferTooShort
abbrev pub mask_of : ℕ → List ℕ → Answer (List ℕ)
mask_of width s = cond (ltb (length s) width) (refused 4) (given (take width s))

-- the bytes, called banks. Refusal 5, InvalidIndex, at or past the width
abbrev pub bank_of : List ℕ → ℕ → Answer ℕ
bank_of m i = cond (ltb i (length m)) (given (get_or m i 0)) (refused 5)

abbrev pub set_bank : List ℕ → ℕ → ℕ → Consent × List ℕ
set_bank m i v = cond (ltb i (length m)) (accepted, set m i v) (refused 5, m)

-- the channels, eight to a byte. Refusal 5 for one that the mask has not
abbrev pub enabled_of : List ℕ → ℕ → Answer Bool
enabled_of m c = cond (ltb c (8 * length m)) (given (channel_on m c)) (refused 5)

abbrev pub switched : List ℕ → ℕ → Bool → List ℕ
switched m c on = set m (c / 8) (set_field (c % 8) 1 (get_or m (c / 8) 0) (bit_of on))

abbrev pub set_channel : List ℕ → ℕ → Bool → Consent × List ℕ
set_channel m c on = cond (ltb c (8 * length m)) (accepted, switched m c on) (refused 5, m)

-- the first n channels, one after another
abbrev pub statuses_of : ℕ → List ℕ → List Bool
statuses_of n m = tabulate n (channel_on m)

-- how many of these are true
abbrev pub how_many : List Bool → ℕ
how_many [] = 0
how_many (b ∷ bs) = bit_of b + how_many bs

-- how many of its channels a mask switches on (RULES: S12)
abbrev pub channels_on : List ℕ → ℕ
channels_on m = how_many (statuses_of (8 * length m) m)

-- The numbers of the refusals (RULES: R1 to R19).
use Rattle.std.specs.Prelude.{ℕ}
use Rattle.table.specs.declared.refusal.Refusal.{Refusal}
use Rattle.table.specs.declared.refusal.Refusal.TheVariants.{
  UnknownMacCommand,
  TruncatedPayload,
  WrongLength,
  BufferTooShort,
  InvalidIndex,
  InvalidDataRateRange,
  InvalidDataRate,
  InvalidTxPower,
  MarginOutOfRange,
  DelayOutOfRange,
  MaxEirpOutOfRange,
  NanoSecondsOutOfRange,
  BothPlaces,
  FOptsTooLong,
  PayloadWithoutPort,
  ListTooLong,
  PendingFull,
  BadTraceLine,
  NoSuchCommand,
}

abbrev pub number_of : Refusal → ℕ
number_of UnknownMacCommand = 1
number_of TruncatedPayload = 2
number_of WrongLength = 3
number_of BufferTooShort = 4
number_of InvalidIndex = 5
number_of InvalidDataRateRange = 6
number_of InvalidDataRate = 7
number_of InvalidTxPower = 8
number_of MarginOutOfRange = 9
number_of DelayOutOfRange = 10
number_of MaxEirpOutOfRange = 11
number_of NanoSecondsOutOfRange = 12
number_of BothPlaces = 13
number_of FOptsTooLong = 14
number_of PayloadWithoutPort = 15
number_of ListTooLong = 16
number_of PendingFull = 17
number_of BadTraceLine = 18
number_of NoSuchCommand = 19

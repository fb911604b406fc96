-- The counts of Map-Registers. Each count saturates.
use Rattle.std.specs.Prelude.{ℕ, ◌+◌, ◌-◌, ◌^◌, min, true, false}
use Rattle.ddt_registrar.specs.declared.refusal.Refusal.{Refusal}
use Rattle.ddt_registrar.specs.declared.refusal.Refusal.TheVariants.{NoRecord, NoSite, NoKey, WrongCode, Replayed, TooMany, Memory}
use Rattle.ddt_map_server.specs.declared.register_outcome.RegisterOutcome.{RegisterOutcome}
use Rattle.ddt_map_server.specs.declared.register_outcome.RegisterOutcome.TheVariants.{Limited, TooLong, Malformed, Refused, Taken}
use Rattle.ddt_map_server.specs.declared.register_counts.RegisterCounts.{RegisterCounts}

-- one more; a count has 64 bits
abbrev pub plus_one : ℕ → ℕ
plus_one count = min (count + 1) (2 ^ 64 - 1)

-- one more that is refused, counted by its refusal
abbrev pub with_refused : RegisterCounts → Refusal → RegisterCounts
with_refused c NoRecord = record c { no_record = plus_one c.no_record }
with_refused c NoSite = record c { no_site = plus_one c.no_site }
with_refused c NoKey = record c { no_key = plus_one c.no_key }
with_refused c WrongCode = record c { wrong_code = plus_one c.wrong_code }
with_refused c Replayed = record c { replayed = plus_one c.replayed }
with_refused c TooMany = record c { too_many = plus_one c.too_many }
with_refused c Memory = record c { memory = plus_one c.memory }

-- one more, counted by its outcome
abbrev pub with_registered : RegisterCounts → RegisterOutcome → RegisterCounts
with_registered c Limited = record c { limited = plus_one c.limited }
with_registered c TooLong = record c { too_long = plus_one c.too_long }
with_registered c (Malformed fault) = record c { malformed = plus_one c.malformed }
with_registered c (Refused refusal) = with_refused c refusal
with_registered c (Taken true) = record c { taken = plus_one c.taken; notified = plus_one c.notified }
with_registered c (Taken false) = record c { taken = plus_one c.taken }

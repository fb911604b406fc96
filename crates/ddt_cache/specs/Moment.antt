-- The moments of a resolver's clock, in milliseconds.
use Rattle.std.specs.Prelude.{ℕ}

-- the last moment, some 292 million years after moment 0
abbrev pub last_moment : ℕ
last_moment = 9223372036854775807

-- how many milliseconds a minute has
abbrev pub minute : ℕ
minute = 60000

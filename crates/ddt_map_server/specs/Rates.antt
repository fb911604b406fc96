-- The limit of Map-Registers from a source. Moments are in milliseconds.
use Rattle.std.specs.Prelude.{ℕ, ◌+◌, ◌/◌, ◌%◌, ◌^◌, ◌==◌, Bool, if◌then◌else◌, List, get_or, set, replicate, nat_lt}
use Rattle.ddt_path.specs.declared.locator.Locator.{Locator}
use Rattle.ddt_path.specs.declared.locator.Locator.TheVariants.{V4, V6}

-- the number of slots in which sources are counted
abbrev pub slots : ℕ
slots = 1021

-- the most Map-Registers in a second from the sources of a slot
abbrev pub most_a_second : ℕ
most_a_second = 1000

-- the numbers of Map-Registers in this second, by slot
pub record Rates : Type 0 where
  pub second : ℕ
  pub counts : List ℕ

-- the slot of a source; the addresses of one IPv6 prefix of 64 bits have one
abbrev pub slot_of : Locator → ℕ
slot_of (V4 address) = address % slots
slot_of (V6 address) = address / 2 ^ 64 % slots

-- the counts of a second: all 0 in a new one
abbrev pub counts_in : ℕ → Rates → List ℕ
counts_in second r = if r.second == second then r.counts else replicate slots 0

-- the number in a second from the sources that share this one's slot
abbrev pub count_of : ℕ → Locator → Rates → ℕ
count_of second source r = get_or (counts_in second r) (slot_of source) 0

-- one more is admitted at a moment
abbrev pub is_admitted : ℕ → Locator → Rates → Bool
is_admitted now source r = nat_lt (count_of (now / 1000) source r) most_a_second

-- the counts after one more, which is counted if it is admitted
abbrev pub after_one : ℕ → Locator → Rates → Rates
after_one now source r = record {
  second = now / 1000;
  counts =
      if is_admitted now source r
      then set (counts_in (now / 1000) r) (slot_of source) (count_of (now / 1000) source r + 1)
      else counts_in (now / 1000) r;
}

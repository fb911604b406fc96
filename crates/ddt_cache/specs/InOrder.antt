-- What holds of each cache at all times.
use Rattle.std.specs.Prelude.{ℕ, ◌≡◌, ◌≢◌, ◌<◌, ◌≤◌, ◌+◌, ◌*◌, IsTrue, List, length, Some}
use Rattle.std.specs.FinMap.{get, len}
use Rattle.ddt_path.specs.declared.action.Action.TheVariants.{NotAuthoritative}
use Rattle.ddt_path.specs.Locators.{most_locators}
use Rattle.ddt_cache.specs.declared.cache_entry.Entry.{Entry}
use Rattle.ddt_cache.specs.Moment.{last_moment, minute}
use Rattle.ddt_cache.specs.Entry.{is_positive, is_negative, most_positive_minutes, most_negative_minutes}
use Rattle.ddt_cache.specs.Live.{Known}
use Rattle.ddt_cache.specs.Saved.{most_live_entries}

-- What holds of the live entry of a prefix. It ends after the time, within a day, and within a quarter of an hour where
-- it is negative. It isn't NOT-AUTHORITATIVE; a positive one has a locator and isn't for everything.
pub record IsEntryInOrder (time : ℕ) (p : List ℕ) (e : Entry) : Type 0 where
  pub live : time < e.end
  pub day : e.end ≤ time + most_positive_minutes * minute
  pub negative : IsTrue (is_negative e.action) → e.end ≤ time + most_negative_minutes * minute
  pub authoritative : e.action ≢ NotAuthoritative
  pub locator : IsTrue (is_positive e.action) → 0 < length e.servers
  pub below_root : IsTrue (is_positive e.action) → 0 < length p
  pub few : length e.servers ≤ most_locators

-- what holds of what a cache knows
pub record IsCacheInOrder (k : Known) : Type 0 where
  pub time : k.time ≤ last_moment
  pub count : len k.live ≤ most_live_entries
  pub few : length k.roots ≤ most_locators
  pub entries : (p : List ℕ) (e : Entry) → get k.live p ≡ Some e → IsEntryInOrder k.time p e

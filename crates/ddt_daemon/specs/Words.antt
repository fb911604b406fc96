-- The commands for a daemon.
use Rattle.std.specs.Prelude.{ℕ, List, codes}
use Rattle.ddt_daemon.specs.declared.control_word.ControlWord.{ControlWord}
use Rattle.ddt_daemon.specs.declared.control_word.ControlWord.TheVariants.{Stats, Reload, Flush, Servers, Sites, Cache, Lookup, Stop}

-- the word on a line for each command: to tell its counts, to take up its configuration or settings anew, to forget
-- what it remembers of referrals, to tell what it knows of servers, what is registered for its sites, what it
-- remembers, and what of that an identifier would be looked up by, and to end
abbrev pub word_text : ControlWord → List ℕ
word_text Stats = codes "stats"
word_text Reload = codes "reload"
word_text Flush = codes "flush"
word_text Servers = codes "servers"
word_text Sites = codes "sites"
word_text Cache = codes "cache"
word_text Lookup = codes "lookup"
word_text Stop = codes "stop"

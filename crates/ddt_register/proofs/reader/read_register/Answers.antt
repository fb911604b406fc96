use Rattle.csv.specs.Reading.{default_config, records, strip_bom}
use Rattle.ddt_register.proofs.LeftLemmas.{IsLeft-all}
use Rattle.ddt_register.proofs.SpelledLemmas.{spelled-take}
use Rattle.ddt_register.proofs.reader.read_register.Goals as goal

pub returns-clause-spelled : goal.returns-clause-spelled
returns-clause-spelled g c = λ bytes known.
    let made = c.from_reader-reader.ensures in
    c.read_records.ensures (records default_config (strip_bom bytes)) (IsLeft-all g.R.Read.remaining c.from_reader-reader.result (g.R.Read.remaining c.args.reader) bytes made.source made.state known)

pub returns-clause-front : goal.returns-clause-front
returns-clause-front g c = λ bytes known. rw (spelled-take (records default_config (strip_bom bytes))) (returns-clause-spelled g c bytes known)

use Rattle.csv.specs.Records.{fields_of}
use Rattle.ddt_register.proofs.LeftLemmas.{Takes-ok, Takes-fault}
use Rattle.ddt_register.proofs.reader.next_record.Goals as goal

pub returns-in-Ok-clause-takes : goal.returns-in-Ok-clause-takes
returns-in-Ok-clause-takes g c = λ left l.
    Takes-ok g.R.Read.remaining c.args.reader.now c.read_byte_record.new.self c.args.row (fields_of c.read_byte_record.new.row) left c.in-Ok.found c.requires (c.in-Ok.ensures.reads c.requires.trim c.requires.ready) l

pub returns-in-Err-clause-takes : goal.returns-in-Err-clause-takes
returns-in-Err-clause-takes g c = λ left l.
    rw (c.fault_of.ensures, c.kind.ensures) (
    Takes-fault g.R.Read.remaining c.args.reader.now c.read_byte_record.new.self c.args.row (fields_of c.read_byte_record.new.row) left c.in-Err.error.kind c.requires (c.in-Err.ensures.why c.requires.ready) l)

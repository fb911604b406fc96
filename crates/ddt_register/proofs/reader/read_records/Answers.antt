use Rattle.std.proofs.Common.{◌≡◌, ◌∙◌, sym, ap, rules, Ok, Err}
use Rattle.csv.specs.Records.{fields_of}
use Rattle.ddt_register.specs.Spelled.{spelled}
use Rattle.ddt_register.proofs.MidwayLemmas.{first-refused, other_columns, below_columns}
use Rattle.ddt_register.proofs.reader.read_records.Goals as goal

pub returns-in_err-next_record : goal.returns-in_err-next_record
returns-in_err-next_record g c = λ left l.
    let e : c.from_residual.result ≡ Err c.in_err-next_record.field-0.0 = search rules in
    rw e (first-refused g.R.Read.remaining c.args.reader c.next_record.new.reader (fields_of c.next_record.new.fields) left c.in_err-next_record.field-0.0 c.requires.first (c.in_err-next_record.ensures.takes left l))

pub returns-then-not-branch : goal.returns-then-not-branch
returns-then-not-branch g c = λ left l.
    ap spelled (rw c.if-not-branch.true at (c.in_ok-next_record.ensures.takes left l)) ∙ ap Ok (sym (c.into_register.ensures ∙ c.new.ensures))

pub returns-in_err-read_columns : goal.returns-in_err-read_columns
returns-in_err-read_columns g c = λ left l.
    let e : c.from_residual-in_err-read_columns.result ≡ Err c.in_err-read_columns.field-0.0 = search rules in
    let t = rw c.if-not-branch.false at (c.in_ok-next_record.ensures.takes left l) in
    rw e (other_columns left t.0 (fields_of c.next_record.new.fields) c.in_err-read_columns.field-0.0 t.1 (sym c.in_err-read_columns.ensures))

pub returns : goal.returns
returns g c = λ left l.
    let t = rw c.if-not-branch.false at (c.in_ok-next_record.ensures.takes left l) in
    rw (below_columns left t.0 (fields_of c.next_record.new.fields) t.1 (sym c.in_ok-read_columns.ensures)) (c.read_rows.ensures t.0 t.2)

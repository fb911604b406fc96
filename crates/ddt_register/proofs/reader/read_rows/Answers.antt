use Rattle.std.proofs.Common.{◌≡◌, sym, subst, rules, arith, lit<, List, ℕ, length, Err}
use Rattle.csv.specs.Reading.{expected_len}
use Rattle.csv.specs.Records.{fields_of}
use Rattle.ddt_register.specs.Left.{IsLeft}
use Rattle.ddt_register.specs.Spelled.{row_in, rows_in}
use Rattle.ddt_register.proofs.SpelledLemmas.{rows_in-are_rows, row_in-too_many}
use Rattle.ddt_register.proofs.MidwayLemmas.{IsMidway, IsMidway-start, IsMidway-next, IsMidway-end, IsMidway-fault, IsMidway-refused, Gives-row, still_four, same_len, past_last, at_last}
use Rattle.ddt_register.specs.declared.fault.ReadFault.TheVariants.{TooMany}
use Rattle.ddt_register.proofs.reader.read_rows.Goals as goal

pub loop-row-init : goal.loop-row-init
loop-row-init g c = rw c.new-items.ensures (IsMidway-start g.R.Read.remaining c.args.reader c.requires.reading c.requires.columns)

pub returns-in_err-next_record : goal.returns-in_err-next_record
returns-in_err-next_record g c =
    let e : c.from_residual.result ≡ Err c.in_err-next_record.field-0.0 = search rules in
    rw e (IsMidway-refused g.R.Read.remaining c.args.reader c.loop-row.reader c.next_record.new.reader c.loop-row.row c.loop-row.items (fields_of c.next_record.new.fields) c.in_err-next_record.field-0.0 c.loop-row.invariant c.in_err-next_record.ensures.takes)

pub into_register-requires : goal.into_register-requires
into_register-requires g c = rows_in-are_rows c.loop-row.invariant.done c.loop-row.items c.loop-row.invariant.spelled

pub returns-then-not-branch : goal.returns-then-not-branch
returns-then-not-branch g c =
    let none = λ (left : List (List (List ℕ))) (l : IsLeft g.R.Read.remaining c.loop-row.reader left). rw c.if-not-branch.true at (c.in_ok-next_record.ensures.takes left l) in
    rw c.into_register.ensures (IsMidway-end g.R.Read.remaining c.args.reader c.loop-row.reader c.loop-row.row c.loop-row.items c.loop-row.invariant none)

pub read_row-requires-clause-four : goal.read_row-requires-clause-four
read_row-requires-clause-four g c =
    let new = expected_len c.next_record.new.reader in
    let found = c.in_ok-next_record.ensures in
    same_len (length (fields_of c.next_record.new.fields)) new (still_four (expected_len c.loop-row.reader) new c.loop-row.invariant.columns (found.same c.if-not-branch.false)) (found.expected c.if-not-branch.false)

pub returns-in_err-read_row : goal.returns-in_err-read_row
returns-in_err-read_row g c =
    let e : c.from_residual-in_err-read_row.result ≡ Err c.in_err-read_row.field-0.0 = search rules in
    let takes = λ (left : List (List (List ℕ))) (l : IsLeft g.R.Read.remaining c.loop-row.reader left). rw c.if-not-branch.false at (c.in_ok-next_record.ensures.takes left l) in
    let fields = fields_of c.next_record.new.fields in
    rw e (λ all l. Gives-row c.in_err-read_row.field-0.0 (row_in c.loop-row.row fields) (rows_in 1 all) c.in_err-read_row.ensures (λ here.
    IsMidway-fault g.R.Read.remaining c.args.reader c.loop-row.reader c.next_record.new.reader c.loop-row.row c.loop-row.items fields c.in_err-read_row.field-0.0 c.loop-row.invariant takes here all l))

pub loop-row-preserved : goal.loop-row-preserved
loop-row-preserved g c =
    let new = expected_len c.next_record.new.reader in
    let found = c.in_ok-next_record.ensures in
    let takes = λ (left : List (List (List ℕ))) (l : IsLeft g.R.Read.remaining c.loop-row.reader left). rw c.if-not-branch.false at (found.takes left l) in
    rw c.in_ok-push.ensures (
    IsMidway-next g.R.Read.remaining c.args.reader c.loop-row.reader c.next_record.new.reader c.loop-row.row c.loop-row.items (fields_of c.next_record.new.fields) c.in_ok-read_row.field-0 c.loop-row.invariant takes
    (found.reading c.if-not-branch.false) (still_four (expected_len c.loop-row.reader) new c.loop-row.invariant.columns (found.same c.if-not-branch.false)) c.in_ok-read_row.ensures)

pub returns-in_err-past : goal.returns-in_err-past
returns-in_err-past g c =
    let e : c.from_residual-in_err-past.result ≡ Err c.in_err-past.field-0.0 = search rules in
    let last : c.loop-row.row ≡ 65536 = omega arith in
    let before = subst (λ (n : ℕ). IsMidway g.R.Read.remaining c.args.reader c.loop-row.reader n c.loop-row.items) last c.loop-row.invariant in
    rw e (IsMidway-refused g.R.Read.remaining c.args.reader c.loop-row.reader c.next_record-2.new.reader 65536 c.loop-row.items (fields_of c.next_record-2.new.fields) c.in_err-past.field-0.0 before c.in_err-past.ensures.takes)

pub returns-in_err-unless_too_many : goal.returns-in_err-unless_too_many
returns-in_err-unless_too_many g c =
    let e : c.from_residual-in_err-unless_too_many.result ≡ Err c.in_err-unless_too_many.field-0.0 = search rules in
    let new = expected_len c.next_record-2.new.reader in
    let found = c.in_ok-past.ensures in
    let fields = fields_of c.next_record-2.new.fields in
    let past = past_last c.in_ok-past.past c.in_err-unless_too_many.field-0.0 (sym c.in_err-unless_too_many.ensures) in
    let takes = λ (left : List (List (List ℕ))) (l : IsLeft g.R.Read.remaining c.loop-row.reader left). rw past.0 at (found.takes left l) in
    let last : c.loop-row.row ≡ 65536 = omega arith in
    let before = subst (λ (n : ℕ). IsMidway g.R.Read.remaining c.args.reader c.loop-row.reader n c.loop-row.items) last c.loop-row.invariant in
    let four = same_len (length fields) new (still_four (expected_len c.loop-row.reader) new c.loop-row.invariant.columns (found.same past.0)) (found.expected past.0) in
    rw (e, past.1) (IsMidway-fault g.R.Read.remaining c.args.reader c.loop-row.reader c.next_record-2.new.reader 65536 c.loop-row.items fields TooMany before takes (row_in-too_many 65536 fields (lit< tt) four))

pub into_register-requires-2 : goal.into_register-requires-2
into_register-requires-2 g c = rows_in-are_rows c.loop-row.invariant.done c.loop-row.items c.loop-row.invariant.spelled

pub returns : goal.returns
returns g c =
    let none = λ (left : List (List (List ℕ))) (l : IsLeft g.R.Read.remaining c.loop-row.reader left). rw (at_last c.in_ok-past.past (sym c.in_ok-unless_too_many.ensures)) at (c.in_ok-past.ensures.takes left l) in
    rw c.into_register-2.ensures (IsMidway-end g.R.Read.remaining c.args.reader c.loop-row.reader c.loop-row.row c.loop-row.items c.loop-row.invariant none)

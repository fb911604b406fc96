use Rattle.std.proofs.Common.{◌≡◌, ◌++◌, List, ℕ, [], ◌∷◌, None, Some, Option, Vec, Global, sym, ap, subst, ◌∙◌, arith}
use Rattle.std.specs.Option.{option_map}
use Rattle.csv.specs.Records.{fields_of}
use Rattle.csv.specs.declared.record.ByteRecord.{ByteRecord}
use Rattle.csv.specs.declared.writer.Writer.{Writer}
use Rattle.ddt_deploy.specs.Loopback.Written.{IsFresh, TakesItem, left_of, text_so_far}
use Rattle.ddt_deploy.proofs.LoopbackLemmas.RowsLemmas.{IsMidway, passes, takes, ends, text_more}
use Rattle.ddt_deploy.proofs.loopback.csv_text.push_rows.Goals as goal
use Rattle.ddt_deploy.proofs.loopback.csv_text.push_rows.Goals.{in-Some+in_ok-push_record, in_default}

pub loop-row-preserved : goal.loop-row-preserved
loop-row-preserved c =
    let r = c.args.register.now in
    let n = c.loop-row.row in
    let inv = c.loop-row.invariant in
    let rows = inv.1 in
    let left = left_of c.loop-row.left in
    let after = left_of c.take.new.self in
    elim c.match-branch-2.branch [
      | in-Some+in_ok-push_record w ↦
          let fields = fields_of w.in-Some.fields in
          let t : TakesItem n left after (Some fields) =
          subst (λ (o : Option ByteRecord). TakesItem n left after (option_map fields_of o)) w.in-Some.is c.in_ok-fields.ensures in (
            subst (λ (x : Writer (Vec ℕ Global)). IsFresh x) (sym w.writer-is) w.in_ok-push_record.ensures.fresh,
            rows ++ t.0 ∷ [],
            ap text_so_far w.writer-is ∙ text_more (text_so_far c.args.writer.now) (text_so_far c.loop-row.writer)
                (text_so_far w.push_record.new.writer) rows t.0 fields t.1 inv.2 w.in_ok-push_record.ensures.text,
            takes r n rows left after fields inv.3 (omega arith) t,
          )
      | in_default w ↦
          let t : TakesItem n left after None =
          subst (λ (o : Option ByteRecord). TakesItem n left after (option_map fields_of o)) w.in_default.is c.in_ok-fields.ensures in (
            subst (λ (x : Writer (Vec ℕ Global)). IsFresh x) (sym w.writer-is) inv.0,
            rows,
            ap text_so_far w.writer-is ∙ inv.2,
            passes r n rows left after inv.3 t,
          )
    ]

pub returns : goal.returns
returns c =
    let inv = c.loop-row.invariant in
    let last : c.loop-row.row ≡ 65536 = omega arith in (
      inv.1,
      ends c.args.register.now inv.1 (left_of c.loop-row.left)
          (subst (λ (n : ℕ). IsMidway c.args.register.now n inv.1 (left_of c.loop-row.left)) last inv.3),
      inv.2,
    )

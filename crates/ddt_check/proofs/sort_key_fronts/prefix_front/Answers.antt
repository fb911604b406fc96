use Rattle.std.proofs.Common.{ℕ, ◌+◌, ◌*◌, sym, ap, ◌∙◌, arith}
use Rattle.std.proofs.Math.Nat.{mod-eq_of_lt}
use Rattle.ddt_path.specs.declared.form.Form.TheVariants.{Range, Block}
use Rattle.ddt_path.specs.Path.{IsForm}
use Rattle.ddt_check.specs.Fronts.{address_front, prefix_front}
use Rattle.ddt_check.specs.laws.Fronts.{front_of_path}
use Rattle.ddt_check.proofs.sort_key_fronts.prefix_front.Goals as goal

pub returns-in-Range : goal.returns-in-Range
returns-in-Range c =
    let f = Range c.in-Range.iid c.in-Range.len in
    let kept : IsForm f = c.in-Range.ensures.kept in
    let small = kept.0 in
    let same = c.from.ensures in
    mod-eq_of_lt (omega arith) ∙ ap (λ (n : ℕ). n * 4294967296) same ∙ sym (front_of_path f kept)
    ∙ ap prefix_front c.in-Range.ensures.path

pub returns-in-Block : goal.returns-in-Block
returns-in-Block c =
    let f = Block c.in-Block.iid c.in-Block.address c.in-Block.len in
    let kept : IsForm f = c.in-Block.ensures.kept in
    let small = kept.0 in
    let same = c.from-in-Block.ensures in
    ap (λ (n : ℕ). n + c.from-in-Block-2.result)
    (mod-eq_of_lt (omega arith) ∙ ap (λ (n : ℕ). n * 4294967296) same)
    ∙ ap (λ (n : ℕ). c.in-Block.iid * 4294967296 + n) (c.from-in-Block-2.ensures ∙ c.address_front.ensures)
    ∙ sym (front_of_path f kept) ∙ ap prefix_front c.in-Block.ensures.path

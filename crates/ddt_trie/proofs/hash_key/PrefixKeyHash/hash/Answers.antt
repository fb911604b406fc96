use Rattle.std.proofs.Common.{ap, ◌∙◌}
use Rattle.ddt_path.specs.declared.locator.Locator.{Locator}
use Rattle.std.specs.Hash.{u8, u32, u64, u128, fed_then, fed_along}
use Rattle.std.specs.Prelude.{◌+◌, ◌*◌, ◌^◌, ◌++◌}
use Rattle.ddt_path.specs.declared.form.Form.TheVariants.{Range, Block}
use Rattle.ddt_path.specs.declared.locator.Locator.TheVariants.{V4, V6}
use Rattle.ddt_trie.proofs.HashKeyLemmas.{written}
use Rattle.ddt_trie.proofs.hash_key.PrefixKeyHash.hash.Goals as goal

pub returns-in-Range : goal.returns-in-Range
returns-in-Range g c =
    let w = g.H.Hasher.write in
    let is = written c.args.self.now c.form.result (Range c.in-Range.iid c.in-Range.len) c.form.ensures.path c.form.ensures.kept c.in-Range.is in
    fed_along w c.args.state.now _ is
    (fed_then w c.args.state.now _ _ (u32 c.in-Range.iid) (u8 c.in-Range.len) c.write_u32.ensures c.write_u8.ensures)

pub returns-in-Block-default-V4-default : goal.returns-in-Block-default-V4-default
returns-in-Block-default-V4-default g c =
    let w = g.H.Hasher.write in
    let v = c.in-Block-default-V4-default in
    let is = written c.args.self.now c.form.result (Block v.iid (V4 v.address) v.len) c.form.ensures.path c.form.ensures.kept (v.is ∙ ap (λ (a : Locator). Block v.iid a v.len) v.address-is) in
    let words = rw (c.from.ensures, c.from-in-Block-default-V4-default.ensures) at c.write_u64.ensures in
    fed_along w c.args.state.now _ is
    (fed_then w c.args.state.now _ _ (u64 (v.iid * 2 ^ 32 + v.address)) (u8 v.len) words c.write_u8-in-Block-default-V4-default.ensures)

pub returns-in-Block-default-V6-default : goal.returns-in-Block-default-V6-default
returns-in-Block-default-V6-default g c =
    let w = g.H.Hasher.write in
    let v = c.in-Block-default-V6-default in
    let is = written c.args.self.now c.form.result (Block v.iid (V6 v.address) v.len) c.form.ensures.path c.form.ensures.kept (v.is ∙ ap (λ (a : Locator). Block v.iid a v.len) v.address-is) in
    fed_along w c.args.state.now _ is
    (fed_then w c.args.state.now _ _ (u32 v.iid) (u128 v.address ++ u8 v.len) c.write_u32-in-Block-default-V6-default.ensures
    (fed_then w _ _ _ (u128 v.address) (u8 v.len) c.write_u128.ensures c.write_u8-in-Block-default-V6-default.ensures))

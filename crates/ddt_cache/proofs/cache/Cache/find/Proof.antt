-- `find` hands what `longest_live` lent on to `with_prefix`, and the cache ends as `longest_live` says.
use Rattle.std.proofs.Common.{◌≡◌, ℕ, ◌≤◌, List, [], ◌∷◌, refl, sym, subst}
use Rattle.std.proofs.raw_atomic.Walks.{proved, leaves}
use base.Logic.{emp, id⊢}
use base.Fml.{Lft, ftrue, fsep, flft}
use mir.Syntax.{a_type, dcons, dnil, named}
use mir.MapTy.{inst_fn}
use mir.Val.{Val}
use contract.Lifetimes.{Lfts, Shares}
use contract.Monad.{fact, fact_i}
use contract.Running.{tables}
use types.Kit.{‵, raw, ◌⊛◌, some, later, ◌$◌, ◌∵◌, !, qed, by}
use types.Kit.{move, keep, drop, use0, use1, use2, split, join, fjoin, pick, await}
use types.Run.{enter, addr, stop, no_more, and_then, returns}
use prog.Wp.{spot_of}
use types.ByLocal.{env, alloc_all, pass_all, free_all, look_at, get, through, sets, lands_as}
use denote.Builtin.{RefMutOf, u8}
use denote.Exit.{yes, no}
use denote.Laws.{Is, shows}
use denote.Param.{bounded, param, layout}
use denote.Param.Laws.{Laws, of_field}
use denote.Param.Shared.{copy_shared}
use denote.RattleType.{RattleType}
use denote.Ref.{NamedLft, mut_vals, mut_Tells}
use denote.Signature.{plain}
use denote.Steps.{nothing, owned, heard, peeks}
use denote.Struct.Field.{shr_ref_field, u8-field}
use denote.Struct.Laws.{makes, shr_ref_laws, shr_ref_copy, u8-laws, u8-copy}
use borrow.Table.OneValue.{wt_as}
use denote.Struct.Tuple.{Tuple, tuple_laws}
use denote.Triple.Call.{calls_at}
use denote.Triple.Clauses.{lasts, Lasts}
use denote.Triple.Spec.{triple_of}
use denote.Triple.Table.{framed}
use denote.Triple.Walked.{Stays, stay_dropped, walk_of, Goes-dropped, Goes-spent_ref}
use Rattle.std.specs.Prelude.{take, length}
use Rattle.ddt_path.specs.Path.{xeid_path}
use Rattle.ddt_path.specs.contracts.prefix.Prefix as prefix
use Rattle.ddt_path.specs.contracts.xeid.Xeid as xeid
use Rattle.ddt_path.proofs.prefix.Prefix.TheLaws as prefix'
use Rattle.ddt_path.proofs.xeid.Xeid.TheLaws as xeid'
use Rattle.ddt_cache.specs.declared.cache_entry.Entry.{Entry}
use Rattle.ddt_cache.specs.Found.{IsFound}
use Rattle.ddt_cache.specs.Lending.{EndsAs}
use Rattle.ddt_cache.specs.Live.{Known, moved}
use Rattle.ddt_cache.specs.contracts.cache.Cache as cache
use Rattle.ddt_cache.specs.contracts.cache_entry.Entry as entry
use Rattle.ddt_cache.specs.contracts.moment.Moment as moment
use Rattle.ddt_cache.proofs.cache_entry.Entry.TheLaws as entry'
use Rattle.ddt_cache.proofs.moment.Moment.TheLaws as moment'
use Rattle.ddt_cache.specs.contracts.cache.Cache.find as f
use Rattle.ddt_cache.specs.contracts.cache.Cache.find.Key.{name}
use Rattle.ddt_cache.specs.contracts.cache.Cache.longest_live as first
use Rattle.ddt_cache.specs.contracts.cache.with_prefix as second
use Rattle.ddt_cache.proofs.cache.Cache.longest_live.Met as first'
use Rattle.ddt_cache.proofs.cache.with_prefix.Met as second'
use Rattle.ddt_cache.proofs.cache.Cache.find.Statement.{statement}
use Rattle.ddt_cache.proofs.cache.Cache.find.Code as code

-- the laws of the entry that is lent, and of the two tuples that hold it
lent_laws : (κ : Lft) → Laws (shr_ref_field (record { mir = named 0; lft = κ }) entry.the_row tt).row
lent_laws κ = let a : NamedLft = record { mir = named 0; lft = κ } in
    of_field (shr_ref_field a entry.the_row tt) (shr_ref_laws a entry.the_row tt) refl
    (copy_shared (shr_ref_field a entry.the_row tt) (shr_ref_copy a entry.the_row tt (entry'.the_row_laws).shr_laws))

abbrev lent : Lft → RattleType
lent κ = (shr_ref_field (record { mir = named 0; lft = κ }) entry.the_row tt).row

abbrev Found : Lft → RattleType
Found κ = Tuple (u8 ∷ lent κ ∷ [])

abbrev Answer : Lft → RattleType
Answer κ = Tuple (prefix.the_row ∷ lent κ ∷ [])

found_laws : (κ : Lft) → Laws (Found κ)
found_laws κ = tuple_laws (u8 ∷ lent κ ∷ []) (
  of_field u8-field u8-laws refl (copy_shared u8-field u8-copy),
  (lent_laws κ, tt),
)

answer_laws : (κ : Lft) → Laws (Answer κ)
answer_laws κ = tuple_laws (prefix.the_row ∷ lent κ ∷ []) (prefix'.the_row_laws, (lent_laws κ, tt))

pub find_spec : {M : Type 1} → statement M
find_spec 𝓤 𝓛 𝓜 𝓡 wired T L g d dd bound glue =
    let H = 𝓛.H in let 𝓣 = tables 𝓤 H 𝓜 𝓡 𝓡.env in
    let En = f.ended T g d dd in let c = f.clauses T g d dd 𝓛 𝓜.mem 𝓡.returns in
    let inst = bounded (a_type ∷ []) (T, tt) (dcons d (dcons dd dnil)) in let fn = inst_fn inst code.function in
    let Row : RattleType = cache.the_row (param 0 T) g in
    let self = RefMutOf (0 ∷ []) tt (plain (λ _. Row)) (λ _. tt) in
    let hs : Stays En.signature.params En.kept = (
      stay_dropped self no,
      (
        stay_dropped (plain (λ _. moment.the_row)) yes,
        (
          stay_dropped (plain
              (λ _. xeid.the_row)) yes,
          tt,
        ),
      ),
    ) in
    proved 𝓛 En hs c 𝓜 𝓡 (
      Goes-spent_ref 𝓛 2 (0 ∷ []) tt (plain (λ _. Row)),
      (
        Goes-dropped 𝓛 2 (plain (λ _. moment.the_row)) yes (λ κs x w. refl),
        (
          Goes-dropped 𝓛 2 (plain
              (λ _. xeid.the_row)) yes (λ κs x w. refl),
          tt,
        ),
      ),
    )
    (name inst) fn (code.unfolded 𝓤 H 𝓜 𝓡 wired (T, tt) d dd)
    (λ κs. (mut_vals, ((λ n. (moment'.the_told).val n ∷ []), ((λ x. (xeid'.the_told).val x ∷ []), tt))))
    (λ κs. (mut_Tells (named 0) κs.0 Row, ((moment'.the_told).tells, ((xeid'.the_told).tells, tt))))
    (λ κs qs bounds a gh are.
    let n : Val = (moment'.the_told).val a.1.0 in let i : Val = (xeid'.the_told).val a.1.1.0 in
    let G = triple_of 𝓛 (first.signature T g d dd) (first.spec T g d dd 𝓛 𝓜.mem 𝓡.returns) in
    let z : G.Ghost = ((κs, qs, bounds, a, (mut_vals a.0, (n ∷ [], (i ∷ [], tt)))), tt) in
    let y : (walk_of 𝓛 En hs c).Ghost = ((κs, qs, bounds, a, (mut_vals a.0, (n ∷ [], (i ∷ [], tt)))), gh) in
    let G' = triple_of 𝓛 second.signature (second.spec 𝓛 𝓜.mem 𝓡.returns) in
    let κ : Lft = κs.0 in let lifetimes : Lfts 1 = (κ, tt) in let shares : Shares 1 = (qs.0, tt) in
    let x : List ℕ = xeid_path a.1.1.0 in let k : Known = moved a.1.0 a.0.now in
    qed 𝓛 (raw (G.pre z) ∷ []) ∵ enter ! _ _ _ _ _ $
    alloc_all ! (λ l. pass_all ! refl (
      (tt, tt),
      (
        (((moment'.the_row_laws).lawful 𝓛).typed a.1.0
            (n ∷ []) are.1.0).0,
        ((((xeid'.the_row_laws).lawful 𝓛).typed a.1.1.0 (i ∷ []) are.1.1.0).0, tt),
      ),
    ) $
    let local = env fn.locals l in
    sets ! (addr ! (through ! refl (stop !))) refl (tt, tt) $
    calls_at ! (framed 𝓤 H 𝓜 𝓣) G (first'.met 𝓤 𝓛 𝓜 𝓡
    (code.calls-ddt_cache::cache::Cache::longest_live 𝓡.env wired) T L g d dd bound glue) z
    (and_then ! (get ! refl) (and_then ! (get ! refl) (and_then ! (get ! refl) (no_more !)))) (λ v.
    use1 𝓛 (later (some (λ (r : (Found κ).Denot). ((‵ (flft κ qs.0) ⊛ ‵ (fsep (flft κs.1.0 qs.1.0) ftrue)) ⊛ ‵
    ((Found κ).own_val r (v ∷ [])))
    ⊛ some (λ (ws : Lasts (first.ended T g d dd) κs a). ‵ (lasts (first.ended T g d dd) κs a ws) ⊛ ‵ (EndsAs Row a.0 k)
    ⊛ raw (fact 𝓤 (r.0 ≤ length x)) ⊛ raw (fact 𝓤 (IsFound k x (take r.0 x) r.1.now)))))) (id⊢ 𝓤 _) $
    await ! tt $ pick ! (λ r. split ! $ split ! $ split ! $ move ! (3 ∷ []) $ pick ! (λ ws. split ! $ drop ! $
    split ! $ move ! (1 ∷ []) $
    split ! $ heard ! (r.0 ≤ length x) (λ short. heard ! (IsFound k x (take r.0 x) r.1.now) (λ found.
    -- [what the cache ends as; the token; the other token; what was found]
    move ! (3 ∷ []) $ peeks ! (Found κ) (Is (Found κ)) (shows 𝓛 (Found κ)) r (v ∷ []) (λ is.
    lands_as ! refl refl (wt_as (layout (Found κ)) (spot_of 𝓤 H local 4).0 refl v (((found_laws κ).lawful 𝓛).typed r
    (v ∷ []) is).0) $
    let z' : G'.Ghost = ((lifetimes, shares, tt, (a.1.1.0, (r, tt)), (i ∷ [], (v ∷ [], tt))), tt) in
    nothing ! $ move ! (1 ∷ 0 ∷ []) $ join ! $
    owned ! xeid.the_row (Is xeid.the_row) (makes xeid.the_type xeid'.the_plain 𝓛) a.1.1.0 (i ∷ []) are.1.1.0 $ join ! $
    nothing ! $ move ! (3 ∷ 0 ∷ []) $ join ! $ join ! $
    use0 𝓛 (raw (fact 𝓤 (r.0 ≤ length x))) (fact_i 𝓤 (r.0 ≤ length x) (emp 𝓤) short) $
    move ! (1 ∷ 0 ∷ []) $ use2 𝓛 (raw (G'.pre z')) (id⊢ 𝓤 _) $
    calls_at ! (framed 𝓤 H 𝓜 𝓣) G' (second'.met 𝓤 𝓛 𝓜 𝓡 (code.calls-ddt_cache::cache::with_prefix 𝓡.env wired)) z'
    (and_then ! (get ! refl) (and_then ! (get ! refl) (no_more !))) (λ u.
    use1 𝓛 (later (some (λ (s : (Answer κ).Denot). ((‵ (flft κ qs.0) ⊛ ‵ ftrue) ⊛ ‵ ((Answer κ).own_val s (u ∷ [])))
    ⊛ some (λ (ws' : Lasts second.ended lifetimes z'.0.3). ‵ (lasts second.ended lifetimes z'.0.3 ws')
    ⊛ raw (fact 𝓤 (s.0 ≡ take r.0 x)) ⊛ raw (fact 𝓤 (s.1.now ≡ r.1.now)))))) (id⊢ 𝓤 _) $
    await ! tt $ pick ! (λ s. split ! $ split ! $ split ! $ move ! (3 ∷ []) $ pick ! (λ ws'. split ! $ drop ! $
    split ! $
    heard ! (s.0 ≡ take r.0 x) (λ cut. heard ! (s.1.now ≡ r.1.now) (λ kept.
    -- [the token; nothing; the answer; what the cache ends as; the other token]
    move ! (2 ∷ []) $ peeks ! (Answer κ) (Is (Answer κ)) (shows 𝓛 (Answer κ)) s (u ∷ []) (λ is'.
    lands_as ! refl refl (wt_as (layout (Answer κ)) (spot_of 𝓤 H local 0).0 refl u
    (((answer_laws κ).lawful 𝓛).typed s (u ∷ []) is').0) $
    returns ! (look_at ! 0 refl) $ free_all ! refl $
    let So : Type 0 = IsFound k x s.0 s.1.now in
    move ! (1 ∷ 4 ∷ []) $ join ! $ nothing ! $ nothing ! $ fjoin ! $ nothing ! $ fjoin ! $ nothing ! $ fjoin ! $
    use0 𝓛 (raw (fact 𝓤 So)) (fact_i 𝓤 So (emp 𝓤) (subst (λ (w : List ℕ × Entry). IsFound k x w.0 w.1) (λ j.
    (sym cut j, sym kept j)) found)) $
    move ! (5 ∷ 0 ∷ []) $ join ! $ keep ! (2 ∷ 1 ∷ 3 ∷ 0 ∷ []) $
    by ! (leaves 𝓛 En hs c y u s (tt, (tt, (tt, tt))) (tt, (tt, (tt, tt))))))))))))))))))

-- When the registers of two organisations fit together. Each runs some of the servers from the configurations that its
-- own register compiles to (RFC 8111, section 4: the delegation of XEID-prefixes).
use Rattle.std.specs.Prelude.{ℕ, Bool, ◌&&◌, ◌||◌, not, is_some, List, map}
use Rattle.std.specs.List.{list_all}
use Rattle.ddt_register.specs.declared.group.Group.{Group}
use Rattle.ddt_register.specs.declared.register.Register.{Register}
use Rattle.ddt_plan.specs.Groups.{change_of_group}
use Rattle.ddt_organisations.specs.declared.seam.runs_by_group.GroupRun.{GroupRun}

-- A group's servers can be run from the register of one side: it gives them the configuration that the joined register
-- gives them. That is the same kind, the same locators in the same order, and the same authorities, each with the same
-- children or sites.
abbrev pub is_run_from : Register → Register → Group → Bool
is_run_from side joined g = not (is_some (change_of_group side joined g.name))

-- a group of the joined register, and from where its servers can be run; `foreign` has the names of those that the
-- other side runs
abbrev pub run_of : (List ℕ → Bool) → Register → Register → Register → Group → GroupRun
run_of foreign ours theirs joined g = record {
  group = g.name;
  is_foreign = foreign g.name;
  from_ours = is_run_from ours joined g;
  from_theirs = is_run_from theirs joined g;
}

-- A foreign group is to be run from their register, any other from either.
abbrev pub is_good_run : GroupRun → Bool
is_good_run run = run.from_theirs || (not run.is_foreign && run.from_ours)

-- A seam is good where each group of the joined register can be run from one side, and each foreign one from theirs. So
-- no server needs to know more than its own side does.
abbrev pub is_good_seam : (List ℕ → Bool) → Register → Register → Register → Bool
is_good_seam foreign ours theirs joined = list_all is_good_run (map (run_of foreign ours theirs joined) joined.groups)

-- A resolver over wires with random nonces is right.
use Rattle.ddt_loop.specs.Runs.{FairRunsAreRight}
use Rattle.ddt_laws.specs.Nonces.Runs.{RunsAskOnce, TranslatedPacketsAreFair, TranslatedRepliesAreOwed, TranslatedRunsAreRight}

pub runs_translated : FairRunsAreRight → RunsAskOnce → TranslatedPacketsAreFair → TranslatedRepliesAreOwed → TranslatedRunsAreRight
runs_translated right asked_once fair_above owed_below r me start plain wire sent sharers w begun ran translates fair =
    let once = asked_once r me start plain sharers w begun ran in
    let h = right r me start plain sharers w begun ran (fair_above r me plain wire sent translates once fair) in
    (owed_below r me plain wire sent translates h.0, h.1)

use Rattle.std.proofs.Common.{ap, subst, ◌∙◌, rules, arith, length, true, replicate, take, drop, ◌++◌, ◌+◌, ◌≤◌, List}
use Rattle.std.proofs.lemmas.List.Sorted.{IsPartitionPoint-from_clause}
use Rattle.gomod.specs.Coverage.{Reaches}
use Rattle.gomod.specs.Paths.{Version, is_below}
use Rattle.gomod.proofs.CoverageLists.{below-first, length-drop, covered-once, rest-all, set-flags}
use Rattle.gomod.proofs.coverage.cover.Goals as goal

pub returns : goal.returns
returns c = λ done before.
    let i = c.args.interval.now in
    let vs = c.args.versions.now in
    let first = c.partition_point-first.result in
    let n = c.reached.result in
    let point =
    IsPartitionPoint-from_clause (λ v. is_below v i.low) vs first c.partition_point-first.ensures.partitioned
    (below-first vs c.requires.ascend i.low) (λ a r q k. search rules) in
    let within : first ≤ length vs = c.partition_point-first.ensures.bound in
    let reach = subst (λ (l : List Version). Reaches i l n) (rest-all first vs within) c.reached.ensures in
    let all = length-drop first vs within in
    let room : first + n ≤ length c.args.flags.now = omega (arith, all, reach.0, c.requires.len) in
    set-flags c.args.flags.now c.fill.new.self first n _ (omega arith) room (c.fill.ensures.after (λ y h. search rules))
    ∙ ap (λ l. take first l ++ (replicate n true ++ drop n (drop first l))) before
    ∙ covered-once vs done i first n within point reach

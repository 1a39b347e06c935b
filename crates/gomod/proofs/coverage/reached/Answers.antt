use Rattle.std.proofs.Common.{not, rules, length, take, ◌≤◌, ◌<◌}
use Rattle.std.proofs.lemmas.List.Sorted.{IsPartitionPoint-from_clause}
use Rattle.gomod.specs.Paths.{is_below}
use Rattle.gomod.proofs.CoverageLists.{ascends-take, reached-parted, reaches, reaches-few}
use Rattle.gomod.proofs.coverage.reached.Goals as goal

pub returns : goal.returns
returns c =
    let i = c.args.interval.now in
    let vs = c.args.versions.now in
    reaches vs c.requires i c.partition_point.result c.partition_point.ensures.bound
    (IsPartitionPoint-from_clause (λ v. not (is_below i.high v)) vs c.partition_point.result
    c.partition_point.ensures.partitioned (reached-parted vs c.requires i) (λ a r q k. search rules))

pub returns-then-few-near : goal.returns-then-few-near
returns-then-few-near c =
    let i = c.args.interval.now in
    let vs = c.args.versions.now in
    let near = c.min-near.result in
    let few = c.partition_point-few.result in
    let le : near ≤ length vs = search rules in
    let lt : few < near = search rules in
    let up = ascends-take vs near le c.requires in
    reaches-few vs c.requires i near few le lt
    (IsPartitionPoint-from_clause (λ v. not (is_below i.high v)) (take near vs) few
    c.partition_point-few.ensures.partitioned (reached-parted (take near vs) up i) (λ a r q k. search rules))

use Rattle.tables.proofs.SchemaLemmas.{columns_decide}
use Rattle.tables.proofs.schema.are_version_columns.Goals as goal

pub returns-then-are_place_columns : goal.returns-then-are_place_columns
returns-then-are_place_columns c =
    columns_decide c.args.columns.now _ _ _ _ _ _ _ _ c.in-len8.len_at_least c.in-len8.len_below c.id-item.is
    c.shelf-item.is c.path-item.is c.version-item.is c.time-item.is c.gomod-item.is c.order-item.is c.rank-item.is
    (c.are_place_columns.ensures.0 c.if-are_place_columns.true) c.are_other_columns.result c.are_other_columns.ensures

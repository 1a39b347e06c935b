use Rattle.cache.proofs.caches.Caches.keep_seen.Goals as goal

pub returns-else-is_none : goal.returns-else-is_none
returns-else-is_none c w right is =
    (right.0, right.1, right.2, (right.3.0, c.keep_seen.ensures w right.3.1 is, right.3.2))

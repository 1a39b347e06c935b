use Rattle.std.proofs.Common.{[], rules}
use Rattle.std.proofs.KnownBytes.{Appends-nil}
use Rattle.control.proofs.busy_copies.BusyCopiesCopyOrdersMonitoredStoreInsertTracker.catalog_to.Goals as goal

pub returns-clause-came : goal.returns-clause-came
returns-clause-came g c = ([], Appends-nil _, search rules)

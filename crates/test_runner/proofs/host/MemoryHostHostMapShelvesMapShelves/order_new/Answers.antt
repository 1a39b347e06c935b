use Rattle.std.proofs.Common.{[], arith, refl, inl, inr}
use Rattle.test_runner.proofs.host.MemoryHostHostMapShelvesMapShelves.order_new.Goals as goal

pub returns : goal.returns
returns g c = record {
  orders = (record { given = []; failed = 1 }, inr ((refl, refl), refl, refl, refl));
  cause = λ is. (record { given = []; failed = 1 }, inl (omega arith));
  whole = inl refl;
  flushed = tt;
}

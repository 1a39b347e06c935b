-- What follows from one read of a store, and from two.
use Rattle.std.proofs.Common.{◌≡◌, IfOk, Result, Ok, arith, subst}
use Rattle.world.proofs.Causes.{answers, in_turn}
use Rattle.world.specs.Store.{Shown, Reads}
use Rattle.world.specs.World.{World}
use Rattle.world.specs.declared.registry.StoreFault.{StoreFault}
use Rattle.interleave.specs.Interleave.{IsAsItWas}

-- a store that was read is as it was, but for failures
pub only_read : {T : Type 0} (a b : Shown) (result : Result T StoreFault) (of : World → T) → Reads a b result of
    → IsAsItWas a b
only_read a b result of read = record {
  honest = read.honest;
  stays = λ h w stands. (read.at h w stands).stays;
  left = λ h w x y stands may. (read.at h w stands).left x y may;
  failures = read.cause.no_fewer;
}

-- where nothing was read
pub unread : {T : Type 0} (a : Shown) (x : T) (value : World → T) → ((w : World) → x ≡ value w)
    → Reads a a (Ok x) value
unread a x value is = record {
  honest = λ h. h;
  at = λ h w stands. record { answer = is w; stays = stands; left = λ y z may. may };
  cause = answers a a x (omega arith);
}

-- a read whose value is said in other words
pub read_as : {T : Type 0} (a b : Shown) (result : Result T StoreFault) (of value : World → T)
    → ((w : World) → of w ≡ value w) → Reads a b result of → Reads a b result value
read_as a b result of value same read = record {
  honest = read.honest;
  at = λ h w stands.
      let here = read.at h w stands in
      record {
        answer = subst (λ v. IfOk result (λ r. r ≡ v)) (same w) here.answer;
        stays = here.stays;
        left = here.left;
      };
  cause = read.cause;
}

module _ {T U : Type 0} (a b : Shown) (x : T) (of : World → T) (value : World → U) (read : Reads a b (Ok x) of) where
  -- what is made of what was read
  pub made_of : (y : U) → ((w : World) → a.stands w → x ≡ of w → y ≡ value w) → Reads a b (Ok y) value
  made_of y made = record {
    honest = read.honest;
    at = λ h w stands.
        let here = read.at h w stands in
        record { answer = made w stands here.answer; stays = here.stays; left = here.left };
    cause = answers a b y read.cause.no_fewer;
  }

  -- a second read, whose value follows from that of the first
  pub then_read : (c : Shown) (result : Result U StoreFault) (next : World → U) → Reads b c result next
      → ((w : World) → a.stands w → x ≡ of w → next w ≡ value w) → Reads a c result value
  then_read c result next second follows = record {
    honest = λ h. read.honest (second.honest h);
    at = λ h w stands.
        let here = read.at (second.honest h) w stands in
        let there = second.at h w here.stays in
        record {
          answer = subst (λ v. IfOk result (λ r. r ≡ v)) (follows w stands here.answer) there.answer;
          stays = there.stays;
          left = λ y z may. there.left y z (here.left y z may);
        };
    cause = in_turn a b c x result read.cause second.cause;
  }

-- Times, and go.sum lines.
use Rattle.std.proofs.Common.{◌≡◌, ℕ, ◌<◌, Bool, true, false, List, [], ◌∷◌, length, refl, arith}
use Rattle.std.specs.Prelude.{codes, Vec}
use Rattle.std.specs.declared.alloc.Global.{Global}
use Rattle.std.specs.Str.{IsUtf8}
use Rattle.std.proofs.lemmas.Str.{IsUtf8-from_ascii}
use Rattle.modver.specs.Time.{has_time_form, is_moment}
use Rattle.modver.proofs.Forms.{fits_form-ascii}
use Rattle.framing.specs.Framing.{texts}
use Rattle.framing.specs.Message.{MessageView}
use Rattle.wire.specs.declared.resource.Resource.TheVariants as resource
use Rattle.wire.specs.declared.resource.Target.{Target}
use Rattle.wire.specs.declared.resource.Target.TheVariants as target
use Rattle.machine.specs.declared.request.GivenTime.TheVariants.{Malformed}
use Rattle.engine.specs.Request.{time_in, given_time, request_at, message_request, is_summed, sum_at, sum_by, sum_of}
use Rattle.engine.specs.Request.{target_in}

-- more than one value of `Version-Time` is malformed
pub many_times : (values : List (Vec ℕ Global)) → 1 < length values → given_time (texts values) ≡ Malformed
many_times [] many = absurd (omega arith)
many_times (v ∷ []) many = absurd (omega arith)
many_times (v ∷ w ∷ more) many = refl

time_or_not : (text : List ℕ) (form moment : Bool) → has_time_form text ≡ form → is_moment text ≡ moment
    → (IsUtf8 text → ⊥) → time_in text ≡ Malformed
time_or_not text true moment form m never =
    absurd (never (IsUtf8-from_ascii text (fits_form-ascii (codes "dddd-dd-ddTdd:dd:ddZ") text refl form)))
time_or_not text false moment form m never = rw form refl

-- a value that is not UTF-8 is malformed
pub no_text : (text : List ℕ) → (IsUtf8 text → ⊥) → time_in text ≡ Malformed
no_text text never = time_or_not text (has_time_form text) (is_moment text) refl refl never

-- the go.sum line that a message asks for is that of the go.mod that the machine is asked for
sum_at_target : (m : MessageView) (t : Target)
    → sum_by (record { request = request_at m t; is_summed = is_summed t }) ≡ sum_at t
sum_at_target m target.Unreadable = refl
sum_at_target m (target.Put key path version) = refl
sum_at_target m (target.Get key (resource.Info path version)) = refl
sum_at_target m (target.Get key (resource.GoMod path version)) = refl
sum_at_target m (target.Get key (resource.Zip path version)) = refl
sum_at_target m (target.Get key (resource.List path)) = refl
sum_at_target m (target.Get key (resource.Latest path)) = refl
sum_at_target m (target.Get key resource.Modules) = refl
sum_at_target m (target.Get key (resource.GoSum path version)) = refl

pub sum_asked : (m : MessageView) → sum_by (message_request m) ≡ sum_of m
sum_asked m = sum_at_target m (target_in m)

use Rattle.std.proofs.Common.{◌∙◌, Some, None, sym, ap, rules}
use Rattle.modver.specs.SemanticVersion.{version_text}
use Rattle.world.specs.World.{chain, view}
use Rattle.world.proofs.Causes.{answers, handed_on, in_turn}
use Rattle.store.proofs.StoreLemmas.{reads_failed}
use Rattle.cache.proofs.ZipLemmas.{fewer_zips, stands_on}
use Rattle.store.proofs.SeenLemmas.{none_seen, whole}
use Rattle.store.proofs.store.SqlShelvesShelves.entry.Goals as goal

pub returns-in_err-seen : goal.returns-in_err-seen
returns-in_err-seen g c =
    record { reads = reads_failed _ _ _ c.from_residual.result _ _ c.from_residual.ensures c.in_err-seen.ensures.reads }

pub returns-in_default : goal.returns-in_default
returns-in_default g c =
    let read = rw (c.as_str.ensures.value, c.as_str-2.ensures.value) at c.in_ok-seen.ensures.reads in
    record {
      reads = record {
        honest = read.honest;
        at = λ h w stands.
            let says = read.at h w stands in
            record {
              answer = none_seen (view w c.args.shelf.now c.args.path.now (version_text c.args.version.now))
                  (sym c.in_default.is ∙ says.answer);
              stays = says.stays;
              left = says.left;
            };
        cause = answers _ _ None read.cause.no_fewer;
      };
    }

pub returns-in-Some-zip : goal.returns-in-Some-zip
returns-in-Some-zip g c =
    let s = c.args.shelf.now in
    let p = c.args.path.now in
    let v = version_text c.args.version.now in
    let read = rw (c.as_str.ensures.value, c.as_str-2.ensures.value) at c.in_ok-seen.ensures.reads in
    let zip = rw (
      c.as_str-3.ensures,
      c.as_str-4.ensures.value,
      c.as_str-5.ensures.value,
    ) at c.in-Some-zip.ensures.found in
    record {
      reads = record {
        honest = read.honest;
        at = λ h w stands.
            let says = read.at h w stands in
            let right = says.stays.1 in
            record {
              answer = ap Some c.with_zip.ensures
                  ∙ whole w (chain w s) p v c.in-Some.seen c.in-Some-zip.zip (sym c.in-Some.is ∙ says.answer)
                  (zip w right.3.0);
              stays = (
                says.stays.0,
                (
                  right.0,
                  right.1,
                  right.2,
                  (
                    fewer_zips w c.seen.new.self.kept.zips c.zip.new.self c.zip.ensures.others right.3.0,
                    right.3.1,
                    right.3.2,
                  ),
                ),
              );
              left = says.left;
            };
        cause = answers _ _ (Some c.with_zip.result) read.cause.no_fewer;
      };
    }

pub returns : goal.returns
returns g c =
    let s = c.args.shelf.now in
    let p = c.args.path.now in
    let v = version_text c.args.version.now in
    let read = rw (c.as_str.ensures.value, c.as_str-2.ensures.value) at c.in_ok-seen.ensures.reads in
    let then = rw (c.as_str-6.ensures.value, c.as_str-7.ensures.value) at c.in_ok-found.ensures.reads in
    let kept = rw (c.as_str-8.ensures.value, c.as_str-9.ensures.value) at c.keep_seen-seen.ensures.zips in
    record {
      reads = record {
        honest = λ h. read.honest (then.honest h);
        at = λ h w stands.
            let says = read.at (then.honest h) w stands in
            let right = says.stays.1 in
            let more = then.at h w (
              says.stays.0,
              (
                right.0,
                right.1,
                right.2,
                (
                  fewer_zips w c.seen.new.self.kept.zips c.zip.new.self c.zip.ensures.others right.3.0,
                  right.3.1,
                  right.3.2,
                ),
              ),
            ) in
            let after = more.stays.1 in
            record {
              answer = c.keep_seen-seen.ensures.same ∙ more.answer;
              stays = (
                more.stays.0,
                (
                  after.0,
                  after.1,
                  after.2,
                  (
                    kept w after.3.0 (stands_on w (chain w s) p v c.in_ok-found.found (sym more.answer)),
                    after.3.1,
                    after.3.2,
                  ),
                ),
              );
              left = λ x y was. more.left x y (says.left x y was);
            };
        cause = in_turn _ _ _ _ _ read.cause (answers _ _ _ then.cause.no_fewer);
      };
    }

pub returns-in_err-found : goal.returns-in_err-found
returns-in_err-found g c =
    let read = c.in_ok-seen.ensures.reads in
    let then = c.in_err-found.ensures.reads in
    record {
      reads = record {
        honest = λ h. read.honest (then.honest h);
        at = λ h w stands.
            let says = read.at (then.honest h) w stands in
            let right = says.stays.1 in
            let more = then.at h w (
              says.stays.0,
              (
                right.0,
                right.1,
                right.2,
                (
                  fewer_zips w c.seen.new.self.kept.zips c.zip.new.self c.zip.ensures.others right.3.0,
                  right.3.1,
                  right.3.2,
                ),
              ),
            ) in
            record { answer = search rules; stays = more.stays; left = λ x y was. more.left x y (says.left x y was) };
        cause =
            let next = handed_on _ _ _ c.from_residual-in_err-found.result c.from_residual-in_err-found.ensures.1
            then.cause in
            in_turn _ _ _ _ _ read.cause (record { no_fewer = next.no_fewer; device = next.device });
      };
    }

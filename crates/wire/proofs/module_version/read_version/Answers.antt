use Rattle.std.proofs.Common.{sym, rules}
use Rattle.wire.proofs.VersionLemmas.{version-some, version-refused}
use Rattle.wire.proofs.module_version.read_version.Goals as goal

pub returns-in-Ok : goal.returns-in-Ok
returns-in-Ok c = sym (version-some c.args.bytes.now c.as_str.result.now c.in-Ok.version (search (c, rules))
    c.in-Ok.ensures.ok)

pub returns-in-Err-Form : goal.returns-in-Err-Form
returns-in-Err-Form c =
    let is = c.in-Err-Form.field-0-is in
    sym (version-refused c.args.bytes.now c.as_str.result.now c.in-Err-Form.field-0 (search (c, rules))
    c.in-Err-Form.ensures.err (λ memory. cc (is, memory)))

pub returns-in-Err-Build : goal.returns-in-Err-Build
returns-in-Err-Build c =
    let is = c.in-Err-Build.field-0-is in
    sym (version-refused c.args.bytes.now c.as_str.result.now c.in-Err-Build.field-0 (search (c, rules))
    c.in-Err-Build.ensures.err (λ memory. cc (is, memory)))

pub returns-in-Err-TooLong : goal.returns-in-Err-TooLong
returns-in-Err-TooLong c =
    let is = c.in-Err-TooLong.field-0-is in
    sym (version-refused c.args.bytes.now c.as_str.result.now c.in-Err-TooLong.field-0 (search (c, rules))
    c.in-Err-TooLong.ensures.err (λ memory. cc (is, memory)))

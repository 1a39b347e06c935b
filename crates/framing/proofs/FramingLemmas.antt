-- What the framer finds: a failure that lasts, a message that is whole.
use Rattle.std.proofs.Common.{◌≡◌, ℕ, ◌+◌, ◌≤◌, List, ◌++◌, length, take, drop, refl, sym, ap, ◌∙◌, subst, arith, codes}
use Rattle.std.specs.List.{slice_range}
use Rattle.std.proofs.lemmas.List.{append_assoc}
use Rattle.httparse.specs.Grammar.{ReadsRequest}
use Rattle.httparse.specs.Spans.{span_bytes}
use Rattle.httparse.specs.declared.spans.HeaderSpan.{HeaderSpan}
use Rattle.httparse.proofs.RunLemmas.{drop_split, length-slice_range}
use Rattle.framing.specs.Message.{MessageView, ReadsMessage, Ends}
use Rattle.framing.specs.Framing.{HasMessage, IsBad, end_of}
use Rattle.framing.specs.Values.{values_at, IsHeadAt}
use Rattle.framing.specs.declared.head.Head.{Head}
use Rattle.framing.specs.declared.framer.Bad.{Bad}
use Rattle.framing.proofs.HeadLemmas.{values_at_head}

-- bytes that fail the stream still do when more come
pub IsBad-append : (bytes more : List ℕ) (failure : Bad) → IsBad bytes failure → IsBad (bytes ++ more) failure
IsBad-append bytes more failure is = record {
  ends = λ others. subst (λ all. Ends all (end_of failure)) (sym (append_assoc bytes more others))
      (is.ends (more ++ others));
}

-- what is read of a whole message is the message
pub message_at : (bytes : List ℕ) (headers : List HeaderSpan) (found : Head) (message : MessageView)
    → IsHeadAt bytes headers found → found.spans.len + found.body ≤ length bytes
    → message.method ≡ span_bytes bytes found.spans.method
    → message.target ≡ span_bytes bytes found.spans.path
    → message.body ≡ slice_range bytes found.spans.len (found.spans.len + found.body)
    → message.mod_lengths ≡ values_at (codes "mod-length") bytes (take found.spans.headers headers)
    → message.version_times ≡ values_at (codes "version-time") bytes (take found.spans.headers headers)
    → ReadsMessage bytes message (drop (found.spans.len + found.body) bytes)
message_at bytes headers found message at whole method target body mod_lengths version_times =
    let split = drop_split bytes found.spans.len (found.spans.len + found.body) (omega arith) in
    let long = length-slice_range bytes found.spans.len (found.spans.len + found.body) (omega arith) whole in
    let reads = subst (λ rest. ReadsRequest bytes at.head rest)
    (split ∙ ap (λ b. b ++ drop (found.spans.len + found.body) bytes) (sym body)) at.at.reads in
    let values = values_at_head bytes headers found.spans at.head at.at in (
      at.head,
      found.body,
      record { reads = reads; good = at.good },
      at.small,
      omega (arith, ap length body, long),
      same message _ (method ∙ at.at.method) (target ∙ at.at.path) refl
          (mod_lengths ∙ values (codes "mod-length")) (version_times ∙ values (codes "version-time")),
    )
  where
    same : (a b : MessageView) → a.method ≡ b.method → a.target ≡ b.target → a.body ≡ b.body
        → a.mod_lengths ≡ b.mod_lengths
        → a.version_times ≡ b.version_times → a ≡ b
    same a b p q r s t = λ i. record { method = p i; target = q i; body = r i; mod_lengths = s i; version_times = t i }

-- so the bytes begin with one
pub whole_message : (bytes : List ℕ) (headers : List HeaderSpan) (found : Head) → IsHeadAt bytes headers found
    → found.spans.len + found.body ≤ length bytes → HasMessage bytes
whole_message bytes headers found at whole =
    let message : MessageView = record {
      method = span_bytes bytes found.spans.method;
      target = span_bytes bytes found.spans.path;
      body = slice_range bytes found.spans.len (found.spans.len + found.body);
      mod_lengths = values_at (codes "mod-length") bytes (take found.spans.headers headers);
      version_times = values_at (codes "version-time") bytes (take found.spans.headers headers);
    } in (
      message,
      drop (found.spans.len + found.body) bytes,
      message_at bytes headers found message at whole refl refl refl refl refl,
    )

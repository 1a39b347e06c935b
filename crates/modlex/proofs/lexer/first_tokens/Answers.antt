use Rattle.std.proofs.Common.{◌≡◌, ◌<◌, Some, length, get_or, slice_get, arith, sym, ap, ◌∙◌, subst, refl, ◌≤◌, IsUtf8}
use Rattle.std.proofs.Common.{drop}
use Rattle.std.proofs.lemmas.Option.{get_or_from_slice_get, slice_get_within}
use Rattle.modlex.specs.Bytes.{is_blank, is_slash_and}
use Rattle.modlex.specs.Lexer.{views, lexeme_at}
use Rattle.std.proofs.lemmas.Str.{IsUtf8-drop, IsCharBoundary-after_ascii}
use Rattle.modlex.proofs.TokenLoop.{ReadsOn-token}
use Rattle.modlex.proofs.lexer.first_tokens.Goals as goal
use Rattle.modlex.proofs.lexer.first_tokens.Goals.{In-Some}

-- the front of the rest
front : (c : In-Some) → slice_get c.scan.rest.now 0 ≡ Some c.in-Some.field-0.now
front c = ap (λ l. slice_get l 0) (sym c.as_bytes.ensures.value) ∙ sym c.in-Some.ensures.value

first_is : (c : In-Some) → get_or c.scan.rest.now 0 0 ≡ c.in-Some.field-0.now
first_is c = get_or_from_slice_get c.scan.rest.now 0 _ 0 (front c)

some_item : (c : In-Some) → 0 < length c.scan.rest.now
some_item c = slice_get_within c.scan.rest.now 0 _ (front c)

pub split_at-requires : goal.split_at-requires
split_at-requires c =
    let first = first_is (goal.at.split_at-requires c).In-Some in
    let ascii : get_or c.scan.rest.now 0 0 < 128 = omega (arith, first, c.if-is_blank.ensures.ascii refl) in
    let some : 0 < length c.scan.rest.now = some_item (goal.at.split_at-requires c).In-Some in
    IsCharBoundary-after_ascii c.scan.rest.now 0 (subst IsUtf8 c.as_bytes.ensures.value c.as_bytes.ensures.utf8) some
    ascii

pub scan-preserved : goal.scan-preserved
scan-preserved c =
    let first = first_is (goal.at.scan-preserved c).In-Some in
    let bytes = c.as_bytes-bytes.ensures.value in (
      ReadsOn-token c.split_at-in-Some.result.1.now c.split_at-in-Some.result.0.now c.in-Some-lexeme_at.kind
          c.in-Some-lexeme_at.len c.scan.invariant.0
          (subst (λ l. (0 < c.in-Some-lexeme_at.len) × (c.in-Some-lexeme_at.len ≤ length l)) bytes
          c.in-Some-lexeme_at.ensures.within)
          (ap is_blank first ∙ sym c.is_blank.ensures.value ∙ c.if-is_blank.false)
          (ap (λ l. is_slash_and 47 (get_or l 0 0) (drop 1 l)) (sym bytes) ∙ sym c.is_slash_and.ensures
          ∙ c.if-is_slash_and.false)
          (ap lexeme_at (sym bytes) ∙ sym c.in-Some-lexeme_at.ensures.value)
          c.split_at-in-Some.ensures.front
          c.split_at-in-Some.ensures.back
          (subst IsUtf8 (ap (drop c.in-Some-lexeme_at.len) bytes ∙ sym c.split_at-in-Some.ensures.back)
          (IsUtf8-drop _ c.in-Some-lexeme_at.len c.as_bytes-bytes.ensures.utf8
          (c.in-Some-lexeme_at.ensures.boundary c.as_bytes-bytes.ensures.utf8)))
          (views c.keep_token.new.out.items)
          c.in_ok-keep_token.ensures.tokens,
      c.keep_token.ensures.bound,
    )

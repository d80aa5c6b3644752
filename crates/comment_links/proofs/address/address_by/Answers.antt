use Rattle.std.proofs.Common.{◌≡◌, ◌≤◌, length, drop, refl, sym, ◌∙◌, ap, arith}
use Rattle.std.proofs.lemmas.List.{take_rest}
use Rattle.comment_links.specs.InlinesOf.{address_len}
use Rattle.comment_links.proofs.AddressEnds.{address_ends}
use Rattle.comment_links.proofs.address.address_by.Goals as goal

pub range-requires-clause-end_boundary : goal.range-requires-clause-end_boundary
range-requires-clause-end_boundary c =
    let text = c.args.text.now in
    let scheme = length c.args.scheme.now in
    let len : c.address_len-len.result ≡ address_len (drop scheme text) =
    c.address_len-len.ensures.len
    ∙ ap address_len (take_rest c.as_bytes-3.result.now scheme)
    ∙ ap (λ t. address_len (drop scheme t)) c.as_bytes-3.ensures.value in
    let within : scheme ≤ length text =
    omega (
      arith,
      c.if-not-starts_with.ensures.bound refl,
      ap length c.as_bytes.ensures.value,
      ap length c.as_bytes-2.ensures.value,
    ) in
    address_ends text scheme c.address_len-len.result c.utf8.text within (sym len)
    c.if-len-eq0.false

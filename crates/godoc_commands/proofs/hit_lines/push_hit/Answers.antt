use Rattle.std.proofs.Common.{◌≡◌, [], ◌++◌, ◌∙◌, ap, sym}
use Rattle.std.specs.Option.{option_map_or}
use Rattle.std.proofs.lemmas.Result.{on_ok_weaker}
use Rattle.corpus.specs.Corpora.{bytes_in}
use Rattle.go_ast.specs.Position.{line_starts}
use Rattle.go_scanner.proofs.ScanLaws.{AreLineStarts-line_starts, position_is}
use Rattle.godoc_commands.specs.Find.{place_line, position_line}
use Rattle.godoc_commands.proofs.hit_lines.push_hit.Goals as goal

pub position_of-position-requires : goal.position_of-position-requires
position_of-position-requires c =
    let same : c.piece-piece.result.now ≡ c.requires.file = cc in
    let outcome : c.in-Accepted.parsed ≡ c.requires.parsed = cc in
    let starts : c.as_slice.result.now ≡ line_starts (bytes_in c.requires.file.entry) =
    c.as_slice.ensures ∙ ap (λ p. p.scanned.lines) outcome ∙ c.requires.lines in
    rw starts (AreLineStarts-line_starts (bytes_in c.requires.file.entry))

pub returns : goal.returns
returns c =
    let file = c.requires.file in
    let hit = c.args.hit.now in
    let same : c.piece-piece.result.now ≡ file = cc in
    let outcome : c.in-Accepted.parsed ≡ c.requires.parsed = cc in
    let starts : c.as_slice.result.now ≡ line_starts (bytes_in file.entry) =
    c.as_slice.ensures ∙ ap (λ p. p.scanned.lines) outcome ∙ c.requires.lines in
    let position = c.position_of-position.result in
    let place = position_is (bytes_in file.entry) hit.offset position.line position.column
    c.requires.within (rw starts at c.position_of-position.ensures) in
    let path : c.path.result.now ≡ file.path = c.path.ensures ∙ ap (λ f. f.path) same in
    let line : position_line c.path.result.now position.line position.column
    ≡ place_line file.path (bytes_in file.entry) hit.offset =
    (λ j. position_line (path j) (place.0 j) (place.1 j)) in
    on_ok_weaker c.push_line.result
    (λ h. h ∙ ap (λ t. c.args.text.now ++ t) (line
    ∙ sym (ap (λ o. option_map_or (λ f. place_line f.path (bytes_in f.entry) hit.offset) o [])
    c.requires.at)))
    c.push_line.ensures

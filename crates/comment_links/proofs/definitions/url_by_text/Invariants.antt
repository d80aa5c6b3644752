use Rattle.std.proofs.Common.{◌≡◌, ℕ, List, length}
use Rattle.std.specs.BTreeMap.{get_by_text}
use Rattle.std.specs.Option.{option_map}
use Rattle.comment_links.specs.Marks.{url_of}
use Rattle.comment_links.specs.InlineSteps.{url_or}
use Rattle.comment_links.proofs.definitions.url_by_text.Given as goal

-- a text is defined first among those that are left, or else among those that are in the map
abbrev pub invariant-loop-link : goal.invariant-loop-link
invariant-loop-link l = (text : List ℕ)
    → url_or (url_of l.rest text) (option_map (λ url. url.now) (get_by_text l.urls text))
    ≡ url_of l.links text

abbrev pub decreases-loop-link : goal.decreases-loop-link
decreases-loop-link l = length l.rest

-- The links of tables beside the entries that they link, at the places that these have.
use Rattle.links.specs.declared.seen.Seen.{Seen}
use Rattle.links.specs.Links.{Links}
use Rattle.links.specs.Views.{seen_in}

abbrev pub links_of : {E S : Type 0} {H : _} {G : _} → Seen E S H G → Links
links_of {H = H} {G = G} m = seen_in G.reading H.across H.along m.tables m.entries.now

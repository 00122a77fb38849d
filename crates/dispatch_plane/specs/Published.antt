-- What a publication makes of a copy.
use Rattle.xdp_state.specs.Book.{applied}
use Rattle.dispatch_plane.specs.declared.published.Publication.{Publication}
use Rattle.dispatch_plane.specs.declared.published.Published.{Published}

abbrev pub absorbed : Published → Publication → Published
absorbed copy publication = record { state = applied copy.state publication.change; front = publication.front }

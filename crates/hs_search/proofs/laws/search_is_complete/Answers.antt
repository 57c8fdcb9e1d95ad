use Rattle.hs_search.proofs.Complete.{search_is_complete}
use Rattle.hs_search.proofs.laws.search_is_complete.Goals as goal

pub returns : goal.returns
returns c = search_is_complete

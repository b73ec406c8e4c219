use Rattle.sync_typing_places.proofs.places.Place.put_back.Goals as goal

pub returns-clause-own : goal.returns-clause-own
returns-clause-own c = λ s own ready. record { whole = own.whole; ids = own.ids; holds = own.holds; ready = ready }

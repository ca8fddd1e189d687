-- What changes do to the objects.
use Rattle.desk_model.specs.State.{State}
use Rattle.desk_model.specs.Effect as effect
use Rattle.session_model.specs.declared.act.Change.{Change}
use Rattle.session_model.specs.declared.act.Change.TheVariants.{Set, Link, Engine, Today, Freeze, Thaw, Forward, Defer, Resume, Unregister, Drop}
use Rattle.session_model.specs.declared.act.Growth.{Growth}
use Rattle.session_model.specs.declared.act.Growth.TheVariants.{Member, Fixing, Register}

-- THE ONE TABLE OF CHANGES: the state of the objects after a change and its notice
unfoldable pub changed : Change → State → State
changed (Set quote value) s = effect.quote_set quote value s
changed (Link handle target) s = effect.relinked handle target s
changed (Engine instrument engine) s = effect.engine_set instrument engine s
changed (Today day) s = effect.today_set day s
changed (Freeze object) s = effect.frozen_set object s
changed (Thaw object) s = effect.thawed object s
changed (Forward object is_on) s = effect.forward_set object is_on s
changed Defer s = effect.deferred s
changed Resume s = effect.resumed s
changed (Unregister watcher object) s = effect.unregistered watcher object s
changed (Drop object) s = effect.dropped object s

-- and after one that is stored beside what is there
unfoldable pub grown : Growth → State → State
grown (Member composite member weight) s = effect.member_set composite member weight s
grown (Fixing index day rate) s = effect.fixing_added index day rate s
grown (Register watcher object) s = effect.registered_with watcher object s

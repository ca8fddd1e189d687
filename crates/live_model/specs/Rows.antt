-- Conversations whose bytes an independent model of this language gave.
use Rattle.std.specs.Prelude.{◌≡◌, ℕ, Bool, true, false, List, [], ◌∷◌, ◌++◌, codes, pos}
use Rattle.std.specs.Str.Lines.{lines}
use Rattle.session_commands.specs.declared.command.Command.TheVariants.{Ask}
use Rattle.watch_rounds.specs.declared.picker.Order.TheVariants.{First}
use Rattle.session_model.specs.Standing.{start_of}
use Rattle.session_model.specs.Course.{running}
use Rattle.session_model.specs.Rows.{orders_by_hand}
use Rattle.live_model.specs.declared.limits.TheConstants.{MOST_LINE}
use Rattle.live_model.specs.Live.{live_from, conversation}

-- what a conversation writes over a market without objects, where a stock is worth its quote
abbrev pub written : Bool → List ℕ → List ℕ
written ready text =
    conversation orders_by_hand ready (live_from (running First (start_of (pos 0) (codes "today" ∷ []) [])) []) (lines text)

-- the same behind a script of one action `a`, which asks for `s`
abbrev pub written_behind : Bool → List ℕ → List ℕ
written_behind ready text =
    conversation orders_by_hand ready
    (live_from (running First (start_of (pos 0) (codes "today" ∷ codes "a" ∷ codes "s" ∷ []) ((Ask 2 ∷ []) ∷ []))) (codes "a" ∷ []))
    (lines text)

pub record AreAnswered : Type 0 where
  pub longest : MOST_LINE ≡ 65_536
  pub nothing : written true [] ≡ []
  pub names : written false (codes "quote q 1\nstock s q # on it\n\nask s\nask t\nset q 2\nask s\n")
      ≡ codes "s 1.000000 fresh 1\nrefused ask unknown t\ns 2.000000 fresh 1\n"
  pub ready : written true (codes "quote q 1\nstock s q\nsell\n\nask s")
      ≡ codes "ready 1\nready 2\nfault 3 word\nready 3\nready 4\ns 1.000000 fresh 1\nready 5\n"

pub record AreFaulty : Type 0 where
  pub words : written false (codes "sell q\nask\nend\nend now\nask 1\nquote q x\n" ++ 255 ∷ codes "\nwatch w a\nask q\n")
      ≡ codes "fault 1 word\nfault 2 count\nfault 3 end\nfault 4 count\nfault 5 name\nfault 6 number\n"
      ++ codes "fault 7 byte\nfault 8 noaction\nrefused ask unknown q\n"
  pub learns_nothing : written true (codes "ask q\nquote q x\nwatch q b\nask z\nquote q 1\nask q")
      ≡ codes "refused ask unknown q\nready 1\nfault 2 number\nready 2\nfault 3 noaction\nready 3\n"
      ++ codes "refused ask unknown z\nready 4\nready 5\nrefused ask kind q\nready 6\n"
  pub blocks : written false (codes "action a\nask s\nwatch w b\nask\nend\nend\naction a\naction a b\naction b\nwatch w b")
      ≡ codes "fault 3 noaction\nfault 4 count\nfault 6 end\nfault 7 twice\nfault 8 count\nfault 9 unclosed\n"

pub record AreActions : Type 0 where
  pub watched : written false (codes "quote q 1\nstock s q\naction a\nask s\naction b\nwatch w b\nwatch w a\nend\nwatch w a\nregister w s\n"
      ++ codes "set q 2\nask s\nset q 3\naction a\naction b\nask s\n")
      ≡ codes "fault 5 nested\nfault 6 noaction\ns 2.000000 fresh 1\ns 3.000000 fresh 1\nrefused watch taken w\nfault 14 twice\nfault 15 unclosed\n"
  pub dropped : written true (codes "quote q 1\nstock s q\naction a\nask s\nend\nwatch w a\nregister w s\nask s\nset q 2\ndrop w\nset q 3\n"
      ++ codes "watch w a\nask s\naction b\n\nend extra\naction c\nset q 5\n")
      ≡ codes "ready 1\nready 2\nready 3\nready 4\nready 5\nready 6\nready 7\ns 1.000000 fresh 1\nready 8\ns 2.000000 fresh 1\nready 9\n"
      ++ codes "ready 10\nready 11\nready 12\ns 3.000000 fresh 1\nready 13\nready 14\nready 15\nfault 16 count\nready 16\n"
      ++ codes "fault 17 nested\nready 17\nready 18\nfault 14 unclosed\n"
  pub of_the_script : written_behind true (codes "quote q 1\nstock s q\naction a\nwatch w a\nregister w s\nask s\nset q 2\n")
      ≡ codes "ready 1\nready 2\nfault 3 twice\nready 3\nready 4\nready 5\ns 1.000000 fresh 1\nready 6\ns 2.000000 fresh 1\nready 7\n"

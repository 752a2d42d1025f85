-- the notices so far, and those that are still to come, are those of the values
use Rattle.std.proofs.Common.{◌≡◌, ◌++◌, drop}
use Rattle.std.specs.List.{filter_map}
use Rattle.pres_client.specs.ReceivedMessages.{news_of}
use Rattle.pres_client.proofs.receive.news.Given as goal

abbrev pub invariant-loop-told : goal.invariant-loop-told
invariant-loop-told l = l.notices.items ++ filter_map (news_of l.watches l.z) (drop l.told-index l.values) ≡ filter_map (news_of l.watches l.z) l.values

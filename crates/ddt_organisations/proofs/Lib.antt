mod ZoneLemmas
mod GroupLemmas
mod CrossLemmas
mod FollowLemmas
mod PrefixLemmas
mod ToldLemmas
mod RunnerLemmas
mod MeetingLemmas
mod FaultLemmas
mod PairLemmas
mod ChargeLemmas
mod TreeLemmas
pub mod SeamLemmas

mod Feeds
mod Listing

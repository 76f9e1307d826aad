-- the bytes and legs of several records
pub mod Appended
-- which stations are in the sets of a list of records
pub mod Heard
-- which sites are senders
pub mod Senders
-- the landing entries, record by record
pub mod Entries
